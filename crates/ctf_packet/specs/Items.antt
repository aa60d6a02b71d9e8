-- What the bytes of a stream mean: items one after the other, and how they end.
use Rattle.std.specs.Prelude.{ℕ, zero, suc, ◌-◌, ◌^◌, List, [], ◌∷◌, ◌++◌, length, take, drop, nat_lt, Option, Some, None, Result, Ok, Err, if◌then◌else◌}
use Rattle.ctf_bits.specs.declared.source.Ending.{Ending}
use Rattle.ctf_bits.specs.declared.source.Ending.TheVariants.{Clean, Failed}
use Rattle.ctf_clock.specs.declared.moment.Moment.{Moment}
use Rattle.ctf_packet.specs.Classes.{TraceForm}
use Rattle.ctf_packet.specs.Scopes.{Values}
use Rattle.ctf_packet.specs.Packets.{Opened, open_at, reached_after}
use Rattle.ctf_packet.specs.Records.{Recorded, record_at}
use Rattle.ctf_packet.specs.declared.reached.Reached.{Reached}
use Rattle.ctf_packet.specs.declared.fault.StreamFault.{StreamFault}
use Rattle.ctf_packet.specs.declared.fault.StreamFault.TheVariants as faults

-- an event: its class, the clock, the values of all scopes, and its packet's place, in bytes of the stream
pub record Event (C : Type 0) : Type 0 where
  pub class : C
  pub clock : Option Moment
  pub values : Values
  pub packet_end : ℕ
  pub packet_length : ℕ

-- what a tracer did not write before a packet: how many, the clock after the packet's context, and since when and
-- until when
pub record Gap : Type 0 where
  pub count : ℕ
  pub clock : Option Moment
  pub from : Option Moment
  pub to : Option Moment
  pub packet_end : ℕ
  pub packet_length : ℕ

pub data Item (C : Type 0) : Type 0 where
  event : Event C → Item C
  -- event records
  discarded : Gap → Item C
  -- packets
  lost : Gap → Item C

-- Items and how they end: at the end of the stream, or with a fault. `at` is the packet boundary at which they end, in
-- bytes of the stream: the end of all packets, or the beginning of the packet with the fault.
pub record Run (C : Type 0) : Type 0 where
  pub items : List (Item C)
  pub fault : Option StreamFault
  pub at : ℕ

-- nothing more comes
abbrev pub stops : {C : Type 0} → Option StreamFault → ℕ → Run C
stops fault at = record { items = []; fault = fault; at = at }

-- some items, and then the others
abbrev pub before : {C : Type 0} → List (Item C) → Run C → Run C
before items run = record { items = items ++ run.items; fault = run.fault; at = run.at }

abbrev pub item_of : {C : Type 0} → Opened C → Recorded C → Item C
item_of packet r =
    event (record {
      class = r.event.class;
      clock = r.clock;
      values = r.values;
      packet_end = packet.end;
      packet_length = packet.end - packet.start;
    })

abbrev pub gap_of : {C : Type 0} → Opened C → ℕ → Option Moment → Gap
gap_of packet count to =
    record {
      count = count;
      clock = packet.clock;
      from = packet.before;
      to = to;
      packet_end = packet.end;
      packet_length = packet.end - packet.start;
    }

abbrev pub lost_before : {C : Type 0} → Opened C → Option ℕ → List (Item C)
lost_before packet (Some count) = lost (gap_of packet count packet.clock) ∷ []
lost_before packet None = []

abbrev pub discarded_before : {C : Type 0} → Opened C → Option ℕ → List (Item C)
discarded_before packet (Some count) = discarded (gap_of packet count packet.until) ∷ []
discarded_before packet None = []

-- the items before a packet's event records (own)
abbrev pub gaps : {C : Type 0} → Opened C → List (Item C)
gaps packet = lost_before packet packet.lost ++ discarded_before packet packet.dropped

-- the item that an event record is, and what follows from its clock and end; or its fault
abbrev pub recorded : {C : Type 0} → Opened C → (Option Moment → ℕ → Run C)
    → Result (Recorded C) StreamFault → Run C
recorded packet goes (Ok r) = before (item_of packet r ∷ []) (goes r.clock r.end)
recorded packet goes (Err fault) = stops (Some fault) packet.start

-- The event records of a packet from a place on, where the clock came so far, up to the content's end; then what
-- follows from the clock that is reached. `fuel` bounds their number.
abbrev pub from_record : {C : Type 0} → ℕ → Opened C → List ℕ → Option Moment → ℕ
    → (Option Moment → Run C) → Run C
from_record zero packet bytes clock place follows = follows clock
from_record (suc fuel) packet bytes clock place follows =
    if nat_lt place packet.content
    then recorded packet (λ next end. from_record fuel packet bytes next end follows)
    (record_at packet bytes clock place)
    else follows clock

-- the event records from a place on, without a bound: each has a bit at least
abbrev pub from_place : {C : Type 0} → Opened C → List ℕ → Option Moment → ℕ
    → (Option Moment → Run C) → Run C
from_place packet bytes clock place follows =
    from_record (packet.content - place) packet bytes clock place follows

-- the items of a packet's bytes; then what follows from the clock that is reached
abbrev pub from_packet : {C : Type 0} → Opened C → List ℕ → (Option Moment → Run C) → Run C
from_packet packet bytes follows =
    before (gaps packet) (from_place packet bytes packet.clock packet.first follows)

-- the end at a packet boundary
abbrev pub end_fault : Ending → Option StreamFault
end_fault Clean = None
end_fault Failed = Some faults.ReadFailed

-- the longest stream, in bytes (own)
abbrev pub longest_stream : ℕ
longest_stream = 2 ^ 60

-- the items of a packet, and what follows from the clock that is reached; or its fault
abbrev pub opened : {C : Type 0} → ℕ → List ℕ → (Opened C → Option Moment → Run C)
    → Result (Opened C) StreamFault → Run C
opened at left follows (Ok packet) =
    from_packet packet (take (packet.end - packet.start) left) (follows packet)
opened at left follows (Err fault) = stops (Some fault) at

-- The items from a packet boundary on, where the stream has come so far: packets one after the other (CTF 1.8.3,
-- section 5). `fuel` bounds their number.
abbrev pub from_cut : {C : Type 0} → ℕ → TraceForm C → Ending → Option Reached → ℕ → List ℕ → Run C
from_cut zero trace ending reached at left = stops (end_fault ending) at
from_cut (suc fuel) trace ending reached at [] = stops (end_fault ending) at
from_cut (suc fuel) trace ending reached at (byte ∷ bytes) =
    let left = byte ∷ bytes in
    if nat_lt longest_stream at
    then stops (Some faults.StreamTooLong) at
    else opened at left
    (λ packet clock.
    from_cut fuel trace ending (Some (reached_after packet clock)) packet.end
    (drop (packet.end - packet.start) left))
    (open_at trace ending reached at left)

-- the items from a packet boundary on, without a bound: each packet has a byte at least
abbrev pub from_bytes : {C : Type 0} → TraceForm C → Ending → Option Reached → ℕ → List ℕ → Run C
from_bytes trace ending reached at left = from_cut (length left) trace ending reached at left

-- the items of a whole stream, and how they end
unfoldable pub run_of : {C : Type 0} → TraceForm C → Ending → List ℕ → Run C
run_of trace ending bytes = from_bytes trace ending None 0 bytes
