-- The text of an event record in front.
use Rattle.std.proofs.Common.{◌≡◌, ◌-◌, List, ℕ, take, Some, ap, sym, ◌∙◌}
use Rattle.ctf_record_text.specs.Texts.{values_text, event_text}
use Rattle.ctf_clock.specs.declared.moment.Shift.{Shift}
use Rattle.ctf_decode.specs.Known.{Known}
use Rattle.ctf_packet.specs.Classes.{Classes}
use Rattle.ctf_packet.specs.Items.{Event}
use Rattle.ctf_packet.specs.Scopes.{Values}
use Rattle.ctf_packet.specs.Views.{values_of, packet_values}
use Rattle.ctf_stream.specs.Coming.{opened_in, values_at, HasRecords, IsWritten}
use Rattle.ctf_stream.specs.ReadState.{IsPartOf}
use Rattle.ctf_stream.specs.declared.packet.PacketReader.{PacketReader}
use Rattle.ctf_stream.specs.declared.packet.ReadRecord.{ReadRecord}
use Rattle.ctf_stream.specs.declared.packet.WrittenRecord.{WrittenRecord}
use Rattle.ctf_stream.specs.declared.texts.Texts.{Texts}
use Rattle.ctf_format.specs.Lines.{packet_part}

abbrev pub the_event : Shift → Known → List ℕ → PacketReader → ReadRecord → Event Classes
the_event shift known bytes p r = record {
  class = record { stream = p.opened.stream.now; event = r.event.event.now };
  clock = r.event.clock;
  values = values_at (opened_in shift known p.opened) bytes r;
  packet_end = p.opened.end;
  packet_length = p.opened.end - p.opened.start;
}

pub text_is : (writes : Texts) (shift : Shift) (known : Known) (bytes part line : List ℕ) (p : PacketReader) (w : WrittenRecord) → IsWritten writes (opened_in shift known p.opened) p.opened.stream.now bytes part line w → HasRecords p → IsPartOf (packet_values (values_of known)) part (Some p) → take w.end line ≡ event_text (the_event shift known bytes p w.read)
text_is writes shift known bytes part line p w written has made =
    let s = p.opened.stream.now in
    let context = ap (λ (v : Values). v.packet_context) written.read.same in
    written.text ∙ ap (λ xs. values_text xs s w.read.event.event.now (values_at (opened_in shift known p.opened) bytes w.read)) (made has ∙ ap (packet_part s.packet_context) (sym context))
