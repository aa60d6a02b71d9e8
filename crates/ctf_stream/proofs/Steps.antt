-- Items that a packet gives one after the other.
use Rattle.std.proofs.Common.{◌≡◌, ℕ, ◌<◌, ◌≤◌, List, [], ◌∷◌, ◌++◌, length, Option, Some, None, IfSome, Ok, Err, sym, ap, ◌∙◌}
use Rattle.ctf_clock.specs.declared.moment.Moment.{Moment}
use Rattle.ctf_clock.specs.declared.moment.Shift.{Shift}
use Rattle.ctf_decode.specs.Known.{Known}
use Rattle.ctf_record_text.specs.Making.{Made}
use Rattle.ctf_record_text.specs.Texts.{values_text}
use Rattle.ctf_packet.specs.Classes.{Classes}
use Rattle.ctf_packet.specs.Scopes.{Values}
use Rattle.ctf_packet.specs.Packets.{Opened}
use Rattle.ctf_packet.specs.Records.{record_at}
use Rattle.ctf_packet.specs.Items.{Run, before, stops, item_of, recorded, from_place, lost_before, discarded_before}
use Rattle.ctf_packet.specs.Views.{values_of, packet_values, opened_of, recorded_of}
use Rattle.ctf_packet.specs.declared.fault.StreamFault.{StreamFault}
use Rattle.ctf_packet.specs.declared.record.EventRecord.{EventRecord}
use Rattle.ctf_packet.proofs.Going.{goes_on}
use Rattle.ctf_stream.specs.Asked.{AsksTexts}
use Rattle.ctf_stream.specs.Coming.{opened_in, left_in, item_in, values_in, values_at, front_as, HasRecords, HoldsFront, IsRead}
use Rattle.ctf_stream.specs.declared.packet.PacketItem.TheVariants as fronts
use Rattle.ctf_stream.specs.declared.packet.PacketReader.{PacketReader}
use Rattle.ctf_stream.specs.declared.packet.ReadRecord.{ReadRecord}
use Rattle.ctf_stream.specs.declared.texts.Texts.{Texts}

-- no item comes before the event records any more
told : (packet : Opened Classes) (lost dropped : Option ℕ) (run : Run Classes) → lost ≡ None → dropped ≡ None → before (lost_before packet lost ++ discarded_before packet dropped) run ≡ run
told packet lost dropped run no_lost no_dropped =
    ap (λ l. before (lost_before packet l ++ discarded_before packet dropped) run) no_lost ∙ ap (λ d. before (lost_before packet None ++ discarded_before packet d) run) no_dropped

-- the event record at the place has a fault
pub left_fault : (shift : Shift) (p : PacketReader) (known : Known) (bytes : List ℕ) (follows : Option Moment → Run Classes) (fault : StreamFault) → p.lost ≡ None → p.dropped ≡ None → p.place < p.opened.content
    → record_at (opened_in shift known p.opened) bytes p.clock p.place ≡ Err fault → left_in shift known bytes follows p ≡ stops (Some fault) p.opened.start
left_fault shift p known bytes follows fault no_lost no_dropped inside found =
    let packet = opened_in shift known p.opened in
    told packet p.lost p.dropped (from_place packet bytes p.clock p.place follows) no_lost no_dropped
    ∙ goes_on packet bytes follows p.clock p.place inside
    ∙ ap (recorded packet (λ next end. from_place packet bytes next end follows)) found

module _ (shift : Shift) (p : PacketReader) (known after : Known) (bytes : List ℕ) (same : packet_values (values_of after) ≡ packet_values (values_of known)) (r : EventRecord) where
  abbrev packet : Opened Classes
  packet = opened_in shift known p.opened

  abbrev later : Opened Classes
  later = opened_in shift after p.opened

  later_is : later ≡ packet
  later_is = ap (λ v. opened_of shift v p.opened) same

  -- an event record at the place
  took : (follows : Option Moment → Run Classes) (values : Values) → p.lost ≡ None → p.dropped ≡ None → p.place < p.opened.content
      → record_at packet bytes p.clock p.place ≡ Ok (recorded_of p.opened.stream.now values r)
      → left_in shift known bytes follows p ≡ before (item_of later (recorded_of p.opened.stream.now values r) ∷ []) (left_in shift after bytes follows (record p { clock = r.clock; place = r.end }))
  took follows values no_lost no_dropped inside found =
      let item = recorded_of p.opened.stream.now values r in
      let going = λ (q : Opened Classes) (next : Option Moment) (end : ℕ). from_place q bytes next end follows in
      told packet p.lost p.dropped (from_place packet bytes p.clock p.place follows) no_lost no_dropped
      ∙ goes_on packet bytes follows p.clock p.place inside
      ∙ ap (recorded packet (going packet)) found
      ∙ ap (λ q. before (item_of q item ∷ []) (going q r.clock r.end)) (sym later_is)
      ∙ ap (λ run. before (item_of later item ∷ []) run) (sym (told later p.lost p.dropped (going later r.clock r.end) no_lost no_dropped))

  -- the values of one whose text was written
  values_are : (values : Values) → record_at packet bytes p.clock p.place ≡ Ok (recorded_of p.opened.stream.now values r) → values_at later bytes (record { event = r; begin = p.place; before = p.clock }) ≡ values
  values_are values found = ap (λ (q : Opened Classes). values_in q.values (record_at q bytes p.clock p.place)) later_is ∙ ap (values_in packet.values) found

  pub took_made : (follows : Option Moment → Run Classes) (part line : List ℕ) (text : Option ℕ) → p.lost ≡ None → p.dropped ≡ None → p.place < p.opened.content
      → Made p.opened.stream.now (record_at packet bytes p.clock p.place) part after line r text
      → left_in shift known bytes follows p ≡ before (item_in shift after bytes p (front_as r p.clock p.place text) ∷ []) (left_in shift after bytes follows (record p { clock = r.clock; place = r.end }))
  took_made follows part line None no_lost no_dropped inside made = took follows (values_of after) no_lost no_dropped inside made
  took_made follows part line (Some end) no_lost no_dropped inside made =
      took follows made.0 no_lost no_dropped inside made.1
      ∙ ap (λ v. before (item_of later (recorded_of p.opened.stream.now v r) ∷ []) (left_in shift after bytes follows (record p { clock = r.clock; place = r.end }))) (sym (values_are made.0 made.1))

  -- one that was passed over
  abbrev read : ReadRecord
  read = record { event = r; begin = p.place; before = p.clock }

  pub took_passed : (follows : Option Moment → Run Classes) (values : Values) → p.lost ≡ None → p.dropped ≡ None → p.place < p.opened.content
      → record_at packet bytes p.clock p.place ≡ Ok (recorded_of p.opened.stream.now values r)
      → left_in shift known bytes follows p ≡ before (item_in shift after bytes p (fronts.Passed read) ∷ []) (left_in shift after bytes follows (record p { clock = r.clock; place = r.end }))
  took_passed follows values no_lost no_dropped inside found =
      took follows values no_lost no_dropped inside found
      ∙ ap (λ v. before (item_of later (recorded_of p.opened.stream.now v r) ∷ []) (left_in shift after bytes follows (record p { clock = r.clock; place = r.end }))) (sym (values_are values found))

  pub is_read : (values : Values) → p.place ≤ p.opened.content → record_at packet bytes p.clock p.place ≡ Ok (recorded_of p.opened.stream.now values r) → packet_values values ≡ packet.values → IsRead later p.opened.stream.now bytes read
  is_read values inside found shares =
      let are = values_are values found in
      record {
        stands = ap (λ q. record_at q bytes p.clock p.place) later_is ∙ found ∙ ap (λ v. Ok (recorded_of p.opened.stream.now v r)) (sym are);
        same = ap packet_values are ∙ shares ∙ ap (λ (q : Opened Classes). q.values) (sym later_is);
        begins = inside;
      }

  pub holds_made : (writes : Texts) (part line : List ℕ) (text : Option ℕ) → HasRecords p → p.place ≤ p.opened.content → IfSome text (λ end. (end ≤ length line) × AsksTexts writes)
      → Made p.opened.stream.now (record_at packet bytes p.clock p.place) part after line r text → HoldsFront writes shift after bytes part line p (front_as r p.clock p.place text)
  holds_made writes part line None has inside fits made = has
  holds_made writes part line (Some end) has inside fits made =
      let s = p.opened.stream.now in
      let are = values_are made.0 made.1 in (
        has,
        record {
          asked = fits.1;
          read = is_read made.0 inside made.1 (made.2 ∙ same);
          held = fits.0;
          text = made.3 ∙ ap (values_text part s r.event.now) (sym are);
        },
      )
