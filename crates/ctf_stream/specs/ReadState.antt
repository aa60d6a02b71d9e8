-- How far a stream was read.
use Rattle.std.specs.Prelude.{◌≡◌, ℕ, ◌+◌, ◌-◌, ◌*◌, ◌^◌, ◌≤◌, ◌<◌, Bool, true, false, List, [], ◌∷◌, Option, IsSome, Some, None, IfSome, IfNone, Result, Ok, Err}
use Rattle.ctf_bits.specs.declared.source.Ending.{Ending}
use Rattle.ctf_class.specs.declared.trace.TraceClass.{TraceClass}
use Rattle.ctf_decode.specs.Known.{Known}
use Rattle.ctf_packet.specs.Classes.{Classes, TraceForm, trace_form}
use Rattle.ctf_packet.specs.Items.{Run, stops, before, from_bytes}
use Rattle.ctf_packet.specs.Scopes.{Values}
use Rattle.ctf_packet.specs.Views.{values_of, packet_values}
use Rattle.ctf_packet.specs.declared.fault.StreamFault.{StreamFault}
use Rattle.ctf_stream.specs.Coming.{opened_in, left_in, item_in, room_in, HasRecords, HoldsFront}
use Rattle.ctf_fetch.specs.Fetching.{OrNoMemory, most_taken, after_packet, FetchedAt}
use Rattle.ctf_fetch.specs.Headers.{KnowsHeader}
use Rattle.ctf_fetch.specs.declared.packet_scratch.PacketScratch.{PacketScratch}
use Rattle.ctf_fetch.specs.declared.packet_start.PacketStart.{PacketStart}
use Rattle.ctf_stream.specs.declared.packet.PacketReader.{PacketReader}
use Rattle.ctf_stream.specs.declared.packet.PacketItem.{PacketItem}
use Rattle.ctf_stream.specs.declared.read_state.ReadState.{ReadState}
use Rattle.ctf_format.specs.Lines.{packet_part}

abbrev pub trace_of : PacketStart → TraceForm Classes
trace_of cut = trace_form cut.shift cut.trace.now

-- what is to come at a packet boundary, or within the packet that begins there
abbrev pub coming_at : PacketStart → Ending → List ℕ → Known → List ℕ → Option PacketReader
    → Run Classes
coming_at cut ending left known bytes None =
    from_bytes (trace_of cut) ending cut.reached cut.at left
coming_at cut ending left known bytes (Some p) =
    left_in cut.shift known bytes
    (after_packet (trace_of cut) ending (opened_in cut.shift known p.opened) left) p

-- what is to come, where so much is left of the stream
abbrev pub coming_of : Ending → List ℕ → ReadState → Run Classes
coming_of ending left c = coming_at c.cut ending left c.scopes c.buffer c.packet

-- between two packets nothing is held, and no byte was taken beyond
pub record Between (cut : PacketStart) (bytes : List ℕ) (taken : ℕ) : Type 0 where
  pub empty : bytes ≡ []
  pub here : taken ≡ cut.at
  pub near : cut.at ≤ 2 ^ 60 + 2 ^ 28

-- within a packet it is held, and no byte was taken after it
pub record Inside (cut : PacketStart) (bytes : List ℕ) (taken : ℕ) (p : PacketReader) : Type 0 where
  pub fetched : FetchedAt cut.at bytes cut.shift p.opened
  pub here : taken ≡ p.opened.end
  pub near : cut.at ≤ 2 ^ 60
  pub from : p.opened.first ≤ p.place
  pub place : p.place ≤ p.opened.content

abbrev pub StandsAt : PacketStart → List ℕ → ℕ → Option PacketReader → Type 0
StandsAt cut bytes taken None = Between cut bytes taken
StandsAt cut bytes taken (Some p) = Inside cut bytes taken p

abbrev pub Stands : ReadState → Type 0
Stands c = StandsAt c.cut c.buffer c.taken c.packet

-- the text that the lines of a packet share, of one with these values; any text where it has no bits for event records
abbrev pub IsPartOf : Values → List ℕ → Option PacketReader → Type 0
IsPartOf values text None = Unit {0}
IsPartOf values text (Some p) =
    HasRecords p → text ≡ packet_part p.opened.stream.now.packet_context values.packet_context

-- what was made of a packet's header and context is that of these values: the text that its lines share,
-- and the header that later packets may share
pub record IsShared (values : Values) (text : List ℕ) (packet : Option PacketReader)
    (trace : TraceClass) (scratch : PacketScratch) : Type 0 where
  pub part : IsPartOf values text packet
  pub header : KnowsHeader trace scratch values.packet_header

-- this was made of the packet at hand, or between two packets of the one before
abbrev pub HasShared : ReadState → Type 0
HasShared c =
    IsShared (packet_values (values_of c.scopes)) c.line.part c.packet c.cut.trace.now
    c.packet_scratch

-- the current event record has values, or its text was written, or it was passed over
abbrev pub HoldsIn : ReadState → Option PacketReader → PacketItem → Type 0
HoldsIn c (Some p) front =
    HoldsFront c.writes c.cut.shift c.scopes c.buffer c.line.part c.line.bytes.items p front
HoldsIn c None front = Unit {0}

abbrev pub HoldsFound : ReadState → Option PacketItem → Type 0
HoldsFound c (Some front) = HoldsIn c c.packet front
HoldsFound c None = Unit {0}

abbrev pub room_within : Option PacketReader → ℕ
room_within None = 0
room_within (Some p) = room_in p

-- How many items may still come, at the most: a byte has at most eight event records, and a packet has two items more.
abbrev pub room_of : ReadState → ℕ
room_of c = 11 * (most_taken - c.taken) + room_within c.packet

-- between two packets, whatever is kept of the one before
abbrev pub between : ReadState → ReadState
between c = record c { packet = None }

-- after steps within a packet: where they gave nothing, it is over
abbrev pub stepped : Result (Option PacketItem) StreamFault → ReadState → ReadState
stepped (Ok (Some front)) c = c
stepped (Ok None) c = between c
stepped (Err fault) c = c

-- the items of the packet at hand give the next one, and the rest is to come; or they are over, and what is to come
-- stays; or a fault is in the packet
abbrev pub StepsWithin : Run Classes → Run Classes → PacketStart → Known → List ℕ
    → Option PacketReader → Result (Option PacketItem) StreamFault → Type 0
StepsWithin old new cut known bytes (Some p) (Ok (Some front)) =
    old ≡ before (item_in cut.shift known bytes p front ∷ []) new
StepsWithin old new cut known bytes None (Ok (Some front)) = ⊥
StepsWithin old new cut known bytes packet (Ok None) = (old ≡ new) × (packet ≡ None)
StepsWithin old new cut known bytes packet (Err fault) =
    OrNoMemory (λ f. old ≡ stops (Some f) cut.at) fault

-- the next packet is at hand, and what is to come stays; or the stream ends; or a fault is at the packet boundary
abbrev pub Enters : Run Classes → Run Classes → PacketStart → List ℕ → Result Bool StreamFault
    → Type 0
Enters old new cut left (Ok true) = old ≡ new
Enters old new cut left (Ok false) = (old ≡ stops None cut.at) × (left ≡ [])
Enters old new cut left (Err fault) = OrNoMemory (λ f. old ≡ stops (Some f) cut.at) fault

-- a packet that was found takes room
abbrev pub EntersRoom : ℕ → ℕ → Result Bool StreamFault → Type 0
EntersRoom old new (Ok true) = new < old
EntersRoom old new (Ok false) = new ≤ old
EntersRoom old new (Err fault) = Unit {0}

-- the next item, and the rest is to come; or the end; or a fault
abbrev pub Advances : Run Classes → Run Classes → PacketStart → Known → List ℕ → Option PacketReader
    → List ℕ → Result (Option PacketItem) StreamFault → Type 0
Advances old new cut known bytes (Some p) left (Ok (Some front)) =
    old ≡ before (item_in cut.shift known bytes p front ∷ []) new
Advances old new cut known bytes None left (Ok (Some front)) = ⊥
Advances old new cut known bytes packet left (Ok None) = (old ≡ stops None cut.at) × (left ≡ [])
Advances old new cut known bytes packet left (Err fault) =
    OrNoMemory (λ f. old ≡ stops (Some f) cut.at) fault

-- an item is one of the packet at hand, and no packet is at hand at the end
abbrev pub IsOfPacket : Option PacketReader → Option PacketItem → Type 0
IsOfPacket packet (Some front) = IsSome packet
IsOfPacket packet None = packet ≡ None

-- an event record was read and its text written, or it was passed over, and the rest is to come; or only the line is
-- another one
pub record ReadsNext (old new : ReadState) (result : Option PacketItem) : Type 0 where
  pub advances : (ending : Ending) (left : List ℕ) → IfSome result (λ front.
      Advances (coming_of ending left old) (coming_of ending left new) new.cut new.scopes new.buffer
      new.packet left (Ok (Some front)))
  pub stands : Stands new
  pub shared : HasShared new
  pub found : IfSome result (λ _. IsSome new.packet)
  pub holds : IfSome result (HoldsIn new new.packet)
  pub room : IfSome result (λ _. room_of new < room_of old)
  pub taken : new.taken ≡ old.taken
  pub writes : new.writes ≡ old.writes
  pub cut : new.cut ≡ old.cut
  pub buffer : new.buffer ≡ old.buffer
  pub none : IfNone result (new ≡ record old { line = new.line })
