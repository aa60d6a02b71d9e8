-- The texts of event records after their stamps.
use Rattle.std.specs.Prelude.{List, ℕ, Option, Some, None}
use Rattle.ctf_class.specs.declared.trace.EventClass.{EventClass}
use Rattle.ctf_class.specs.Streams.{StreamClass}
use Rattle.ctf_decode.specs.Values.{Val, unsigned}
use Rattle.ctf_packet.specs.Classes.{Classes}
use Rattle.ctf_packet.specs.Items.{Event}
use Rattle.ctf_packet.specs.Scopes.{Values}
use Rattle.ctf_format.specs.Lines.{packet_part, record_text}

-- the value of the event fields, which each event record has
abbrev pub or_nothing : Option Val → Val
or_nothing (Some v) = v
or_nothing None = unsigned 0

-- the host, the name and the scopes, with the text of the packet's part
abbrev pub values_text : List ℕ → StreamClass → EventClass → Values → List ℕ
values_text packet stream event values =
    record_text packet stream event values.stream_event_context values.event_context
    (or_nothing values.event_fields)

-- the text of an event record of a stream
abbrev pub body_text : List ℕ → Event Classes → List ℕ
body_text packet e = values_text packet e.class.stream e.class.event e.values

abbrev pub event_text : Event Classes → List ℕ
event_text e = body_text (packet_part e.class.stream.packet_context e.values.packet_context) e
