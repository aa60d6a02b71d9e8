-- What calls make of an event record: its values, or its text.
use Rattle.std.specs.Prelude.{◌≡◌, ℕ, ℤ, ◌<◌, ◌⊎◌, List, take, Option, Some, None, Result, Ok, Err, IsTrue, int_lt, option_map}
use Rattle.ctf_class.specs.declared.trace.EventClass.{EventClass}
use Rattle.ctf_class.specs.Streams.{StreamClass}
use Rattle.ctf_clock.specs.declared.moment.Moment.{Moment}
use Rattle.ctf_decode.specs.Known.{Known}
use Rattle.ctf_decode.specs.Views.{form}
use Rattle.ctf_record_text.specs.Texts.{values_text}
use Rattle.ctf_record_text.specs.declared.header.ToldHead.{ToldHead}
use Rattle.ctf_record_text.specs.declared.record.LineRecord.{LineRecord}
use Rattle.ctf_packet.specs.Classes.{Classes}
use Rattle.ctf_packet.specs.Records.{Body, Recorded, bodied}
use Rattle.ctf_packet.specs.Scopes.{Values, value_in}
use Rattle.ctf_packet.specs.Views.{values_of, packet_values, recorded_of}
use Rattle.ctf_packet.specs.declared.fault.StreamFault.{StreamFault}
use Rattle.ctf_packet.specs.declared.fault.StreamFault.TheVariants as faults
use Rattle.ctf_packet.specs.declared.record_place.RecordPlace.{RecordPlace}
use Rattle.ctf_packet.specs.declared.record.EventRecord.{EventRecord}
use Rattle.ctf_packet.specs.declared.record.Head.{Head}
use Rattle.ctf_format.specs.Found.{SharesPacket}

-- the scopes after the header are there, with these values of the packet, and the text is that of the event record
abbrev pub PutsBody : Known → StreamClass → EventClass → List ℕ → List ℕ → ℕ → ℕ → ℕ → ℕ → List ℕ
    → Type 0
PutsBody known stream event part bytes content place spent end text =
    (values : Values) → SharesPacket known (value_in values)
    → (b : Body)
    × (bodied (option_map form stream.event_context) (option_map form event.context)
    (form event.fields) bytes content values place spent
    ≡ Ok b)
    × (end ≡ b.end) × (packet_values b.values ≡ packet_values values)
    × (text ≡ values_text part stream event b.values)

-- the scopes after a header that was decoded where the record begins are there, and the text is that of the record
abbrev pub PutsRecord : Known → RecordPlace → ToldHead → List ℕ → ℕ → List ℕ → Type 0
PutsRecord known at told part end text =
    PutsBody known at.packet.now.stream.now told.head.event.now part at.bytes.now
    at.packet.now.content told.head.end told.spent end text

-- the event record there is this one, with these values of its packet
abbrev pub IsThere : StreamClass → Result (Recorded Classes) StreamFault → Known → EventRecord
    → Type 0
IsThere stream stands known r =
    (values : Values) × (stands ≡ Ok (recorded_of stream values r))
    × (packet_values values ≡ packet_values (values_of known))

-- the clock of an event record is before a time, in nanoseconds since the epoch
abbrev pub IsBefore : ℤ → Option Moment → Type 0
IsBefore begin None = ⊥
IsBefore begin (Some clock) = IsTrue (int_lt clock.time begin)

-- the event record there has its values in the scopes, or its text in the line
abbrev pub Made : StreamClass → Result (Recorded Classes) StreamFault → List ℕ → Known → List ℕ
    → EventRecord → Option ℕ → Type 0
Made stream stands part known line r None = stands ≡ Ok (recorded_of stream (values_of known) r)
Made stream stands part known line r (Some end) =
    (values : Values) × (stands ≡ Ok (recorded_of stream values r))
    × (packet_values values ≡ packet_values (values_of known))
    × (take end line ≡ values_text part stream r.event.now values)

-- the event record was made, or it is the fault of the record, or memory ran out
abbrev pub Makes : StreamClass → Result (Recorded Classes) StreamFault → List ℕ → Known → List ℕ
    → Result LineRecord StreamFault → Type 0
Makes stream stands part known line (Ok r) = Made stream stands part known line r.record r.text
Makes stream stands part known line (Err f) = (stands ≡ Err f) ⊎ (f ≡ faults.NoMemory)

-- The values of the scopes after a header are there, and the record ends further on than at its place; or the first
-- fault of these scopes; or the record has no bits; or memory ran out.
abbrev pub MakesValues : StreamClass → Head → Result Body StreamFault → ℕ → Known
    → Result EventRecord StreamFault → Type 0
MakesValues stream head body place known (Ok r) =
    (body ≡ Ok (record { values = values_of known; end = r.end }))
    × (r ≡ record { event = head.event; clock = head.clock; end = r.end }) × (place < r.end)
MakesValues stream head body place known (Err f) =
    (body ≡ Err f)
    ⊎ (((b : Body) × (body ≡ Ok b) × (b.end ≡ place) × (f ≡ faults.EmptyEvent))
    ⊎ (f ≡ faults.NoMemory))
