-- What is to come of a stream, from any place on.
use Rattle.std.specs.Prelude.{◌≡◌, ℕ, take, ◌+◌, ◌-◌, ◌*◌, ◌^◌, ◌≤◌, ◌<◌, ◌⊎◌, List, [], ◌∷◌, ◌++◌, length, Option, Some, None, Result, Ok, Err}
use Rattle.ctf_clock.specs.declared.moment.Moment.{Moment}
use Rattle.ctf_clock.specs.declared.moment.Shift.{Shift}
use Rattle.ctf_decode.specs.Known.{Known}
use Rattle.ctf_class.specs.Streams.{StreamClass}
use Rattle.ctf_record_text.specs.Texts.{values_text}
use Rattle.ctf_record_text.specs.declared.record.LineRecord.{LineRecord}
use Rattle.ctf_packet.specs.Classes.{Classes}
use Rattle.ctf_packet.specs.Packets.{Opened}
use Rattle.ctf_packet.specs.Items.{Run, Item, stops, before, from_place, lost, discarded, lost_before, discarded_before, gap_of, item_of}
use Rattle.ctf_packet.specs.Records.{Recorded, record_at}
use Rattle.ctf_packet.specs.Scopes.{Values}
use Rattle.ctf_packet.specs.declared.record.EventRecord.{EventRecord}
use Rattle.ctf_packet.specs.Views.{values_of, packet_values, opened_of, recorded_of}
use Rattle.ctf_packet.specs.declared.packet.OpenPacket.{OpenPacket}
use Rattle.ctf_packet.specs.declared.fault.StreamFault.{StreamFault}
use Rattle.ctf_packet.specs.declared.fault.StreamFault.TheVariants as faults
use Rattle.ctf_stream.specs.declared.packet.PacketReader.{PacketReader}
use Rattle.ctf_stream.specs.Asked.{AsksTexts, IsEarly}
use Rattle.ctf_stream.specs.declared.packet.ReadRecord.{ReadRecord}
use Rattle.ctf_stream.specs.declared.packet.WrittenRecord.{WrittenRecord}
use Rattle.ctf_stream.specs.declared.packet.PacketItem.{PacketItem}
use Rattle.ctf_stream.specs.declared.texts.Texts.{Texts}
use Rattle.ctf_stream.specs.declared.packet.PacketItem.TheVariants as fronts

-- the packet at hand, with the values of its header and context
abbrev pub opened_in : Shift → Known → OpenPacket → Opened Classes
opened_in shift known packet = opened_of shift (packet_values (values_of known)) packet

-- the items of the packet at hand that are left, and what follows from the clock at its end
abbrev pub left_in : Shift → Known → List ℕ → (Option Moment → Run Classes) → PacketReader
    → Run Classes
left_in shift known bytes follows p =
    let packet = opened_in shift known p.opened in
    before (lost_before packet p.lost ++ discarded_before packet p.dropped)
    (from_place packet bytes p.clock p.place follows)

-- the values of an event record that was found; those of its packet where none was
abbrev pub values_in : Values → Result (Recorded Classes) StreamFault → Values
values_in values (Ok r) = r.values
values_in values (Err f) = values

-- the values of the event record at the place where one was read
abbrev pub values_at : Opened Classes → List ℕ → ReadRecord → Values
values_at packet bytes r = values_in packet.values (record_at packet bytes r.before r.begin)

-- the current event record, which was read from a place on, where its packet's clock came so far
abbrev pub front_as : EventRecord → Option Moment → ℕ → Option ℕ → PacketItem
front_as r before begin None = fronts.Event r
front_as r before begin (Some end) =
    fronts.Written (record {
      read = record { event = r; begin = begin; before = before };
      end = end;
    })

abbrev pub front_in : LineRecord → Option Moment → ℕ → PacketItem
front_in made before begin = front_as made.record before begin made.text

-- an event record of the packet at hand that was read without its values
abbrev pub read_in : Shift → Known → List ℕ → PacketReader → ReadRecord → Item Classes
read_in shift known bytes p r =
    let packet = opened_in shift known p.opened in
    item_of packet (recorded_of p.opened.stream.now (values_at packet bytes r) r.event)

-- the current item
abbrev pub item_in : Shift → Known → List ℕ → PacketReader → PacketItem → Item Classes
item_in shift known bytes p (fronts.Written w) = read_in shift known bytes p w.read
item_in shift known bytes p (fronts.Passed r) = read_in shift known bytes p r
item_in shift known bytes p (fronts.Event r) =
    item_of (opened_in shift known p.opened) (recorded_of p.opened.stream.now (values_of known) r)
item_in shift known bytes p (fronts.Lost count) =
    let packet = opened_in shift known p.opened in lost (gap_of packet count packet.clock)
item_in shift known bytes p (fronts.Discarded count) =
    let packet = opened_in shift known p.opened in discarded (gap_of packet count packet.until)

-- how many gaps are to be reported
abbrev pub one_if_some : Option ℕ → ℕ
one_if_some None = 0
one_if_some (Some count) = 1

-- how many items of the packet at hand are left, at the most
abbrev pub room_in : PacketReader → ℕ
room_in p = one_if_some p.lost + one_if_some p.dropped + (p.opened.content - p.place)

-- a packet has bits for event records
abbrev pub HasRecords : PacketReader → Type 0
HasRecords p = p.opened.first < p.opened.content

-- a packet whose bytes are at hand
pub record Within (bytes : List ℕ) (p : PacketReader) : Type 0 where
  pub from : p.opened.first ≤ p.place
  pub place : p.place ≤ p.opened.content
  pub content : p.opened.content ≤ 2 ^ 62
  pub held : p.opened.content ≤ 8 * length bytes

-- the next item of a packet, and what is left then; or its end; or its fault
abbrev pub TakesItem : Shift → (Option Moment → Run Classes) → Run Classes → PacketReader → Known
    → List ℕ → Result (Option PacketItem) StreamFault → Type 0
TakesItem shift follows old p known bytes (Ok (Some front)) =
    old ≡ before (item_in shift known bytes p front ∷ []) (left_in shift known bytes follows p)
TakesItem shift follows old p known bytes (Ok None) = old ≡ follows p.clock
TakesItem shift follows old p known bytes (Err fault) =
    (old ≡ stops (Some fault) p.opened.start) ⊎ (fault ≡ faults.NoMemory)

-- an item that was found takes room
abbrev pub TakesRoom : ℕ → ℕ → Result (Option PacketItem) StreamFault → Type 0
TakesRoom old new (Ok (Some front)) = new < old
TakesRoom old new (Ok None) = new ≤ old
TakesRoom old new (Err fault) = Unit {0}

-- an event record is at the place where it was read
pub record IsRead (packet : Opened Classes) (stream : StreamClass) (bytes : List ℕ)
    (r : ReadRecord) : Type 0 where
  pub stands : record_at packet bytes r.before r.begin
      ≡ Ok (recorded_of stream (values_at packet bytes r) r.event)
  pub same : packet_values (values_at packet bytes r) ≡ packet.values
  pub begins : r.begin ≤ packet.content

-- where texts are written, this one is that of the event record at the place where it was read
pub record IsWritten (writes : Texts) (packet : Opened Classes) (stream : StreamClass)
    (bytes part line : List ℕ) (w : WrittenRecord) : Type 0 where
  pub asked : AsksTexts writes
  pub read : IsRead packet stream bytes w.read
  pub held : w.end ≤ length line
  pub text : take w.end line
      ≡ values_text part stream w.read.event.event.now (values_at packet bytes w.read)

-- An event record that has no values in the scopes has its text in the line, or is before those whose texts are asked
-- for. One that is shown is in a packet with bits for event records.
abbrev pub HoldsFront : Texts → Shift → Known → List ℕ → List ℕ → List ℕ → PacketReader
    → PacketItem → Type 0
HoldsFront writes shift known bytes part line p (fronts.Written w) =
    HasRecords p
    × IsWritten writes (opened_in shift known p.opened) p.opened.stream.now bytes part line w
HoldsFront writes shift known bytes part line p (fronts.Passed r) =
    IsEarly writes r.event.clock
    × IsRead (opened_in shift known p.opened) p.opened.stream.now bytes r
HoldsFront writes shift known bytes part line p (fronts.Event r) = HasRecords p
HoldsFront writes shift known bytes part line p (fronts.Lost count) = Unit {0}
HoldsFront writes shift known bytes part line p (fronts.Discarded count) = Unit {0}
