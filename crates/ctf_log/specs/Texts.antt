-- The texts of event records by reference, and the lines of those that were read as texts.
use Rattle.std.specs.Prelude.{ℕ, ℤ, List, ◌++◌, Option, unwrap_or, option_copied, option_map}
use Rattle.ctf_decode.specs.Views.{val}
use Rattle.ctf_format.specs.Lines.{packet_part}
use Rattle.ctf_log.specs.Lines.{newline}
use Rattle.ctf_record_text.specs.Texts.{body_text}
use Rattle.ctf_stream.specs.Shown.{event_of}
use Rattle.ctf_stream.specs.declared.item.Event.{Event}
use Rattle.ctf_stream.specs.declared.item.EventText.{EventText}
use Rattle.ctf_timestamp.specs.Stamps.{stamp_part}
use Rattle.ctf_timestamp.specs.declared.style.Style.{Style}

-- the text that the lines of its packet share: the one it has, or else that of the packet context (own)
abbrev pub shared_text : Event → List ℕ
shared_text e =
    unwrap_or (option_copied e.part)
    (packet_part e.stream.now.packet_context (option_map val e.scopes.now.packet_context))

-- the text of an event record after its stamp (own)
abbrev pub event_text_of : Event → List ℕ
event_text_of e = body_text (shared_text e) (event_of e 0 0)

-- the line of an event record that was read as a text, where an event record at a time was printed before, or none
-- (own)
abbrev pub text_line : Style → Option ℤ → EventText → List ℕ
text_line style last e = stamp_part style e.moment last ++ (e.text.now ++ newline)
