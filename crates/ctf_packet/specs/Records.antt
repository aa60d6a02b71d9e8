-- Event records.
use Rattle.std.specs.Prelude.{ℕ, ℤ, pos, negsuc, ◌^◌, nat_lt, if◌then◌else◌, not, ◌==◌, List, [], Option, Some, None, Result, Ok}
use Rattle.std.specs.List.{last_or}
use Rattle.ctf_class.specs.Items.{first_of_id, only_item}
use Rattle.ctf_class.specs.declared.route.Scope.TheVariants.{EventHeader, StreamEventContext, EventContext, EventFields}
use Rattle.ctf_clock.specs.declared.moment.Moment.{Moment}
use Rattle.ctf_decode.specs.Values.{Val}
use Rattle.ctf_decode.specs.Forms.{Form}
use Rattle.ctf_decode.specs.Fields.{ids}
use Rattle.ctf_packet.specs.Classes.{EventForm, StreamForm}
use Rattle.ctf_packet.specs.Scopes.{◌>>=◌, Values, input_of, put, Stood, scope_at, fault_in_record}
use Rattle.ctf_packet.specs.Packets.{Opened, unless, or_fault, moves, clock_after}
use Rattle.ctf_packet.specs.declared.fault.StreamFault.{StreamFault}
use Rattle.ctf_packet.specs.declared.fault.StreamFault.TheVariants as faults

-- an event record: its class, the clock after its header, and the values of all scopes
pub record Recorded (C : Type 0) : Type 0 where
  pub event : EventForm C
  pub clock : Option Moment
  pub values : Values
  -- where it ends, in bits from the packet's first one
  pub end : ℕ

-- the class of a number of 64 bits; of a number below 0 none
abbrev pub event_numbered : {C : Type 0} → List (EventForm C) → ℤ → Option (EventForm C)
event_numbered events (pos id) =
    if nat_lt id (2 ^ 64) then first_of_id (λ event. event.id) id events else None
event_numbered events (negsuc n) = None

-- the class that the last number named `id` gives, or the only one (CTF 1.8.3, section 6.1; the last and the only
-- one are own)
abbrev pub event_named : {C : Type 0} → List (EventForm C) → Option ℤ → Option (EventForm C)
event_named events (Some id) = event_numbered events id
event_named events None = only_item events

abbrev pub ids_in : Option Form → Option Val → List ℤ
ids_in (Some k) (Some v) = ids k v
ids_in (Some k) None = []
ids_in None v = []

-- the header of an event record: the class that it names, the clock after it, and its value
pub record Headed (C : Type 0) : Type 0 where
  pub event : EventForm C
  pub clock : Option Moment
  pub header : Stood

-- The header of an event record at a place of a packet's bytes, where the clock came so far; or its first fault, in
-- this order (CTF 1.8.3, section 6.1; the order is own).
unfoldable pub headed : {C : Type 0} → StreamForm C → List ℕ → ℕ → Values → Option Moment → ℕ
    → Result (Headed C) StreamFault
headed stream bytes content values clock place = do
  header ← scope_at fault_in_record stream.event_header (input_of bytes content values) place 0
  next ← clock_after stream.line clock (moves stream.event_header header.value)
  event ←
      or_fault faults.UnknownEvent
      (event_named stream.events (last_or None (ids_in stream.event_header header.value)))
  Ok (record { event = event; clock = next; header = header })

-- what follows the header: the values of all scopes, and where the last one ends
pub record Body : Type 0 where
  pub values : Values
  pub end : ℕ

-- The scopes after the header, one after the other: the stream event context, the event context, the fields (CTF
-- 1.8.3, section 6.2).
unfoldable pub bodied : Option Form → Option Form → Form → List ℕ → ℕ → Values → ℕ → ℕ
    → Result Body StreamFault
bodied shared_class own_class fields_class bytes content values place spent = do
  shared ← scope_at fault_in_record shared_class (input_of bytes content values) place spent
  let with_shared = put StreamEventContext shared.value values
  own ←
      scope_at fault_in_record own_class (input_of bytes content with_shared) shared.end
      shared.spent
  let with_own = put EventContext own.value with_shared
  fields ←
      scope_at fault_in_record (Some fields_class) (input_of bytes content with_own) own.end
      own.spent
  Ok (record { values = put EventFields fields.value with_own; end = fields.end })

-- The event record at a place of a packet's bytes, where the clock came so far; or its first fault, in this order
-- (CTF 1.8.3, section 6; the order is own).
unfoldable pub record_at : {C : Type 0} → Opened C → List ℕ → Option Moment → ℕ
    → Result (Recorded C) StreamFault
record_at packet bytes clock place = do
  let stream = packet.stream
  head ← headed stream bytes packet.content packet.values clock place
  let values = put EventHeader head.header.value packet.values
  body ←
      bodied stream.event_context head.event.context head.event.fields bytes packet.content values
      head.header.end head.header.spent
  some_bits ← unless faults.EmptyEvent (not (body.end == place))
  Ok (record { event = head.event; clock = head.clock; values = body.values; end = body.end })
