-- Items by value, as those that they are.
use Rattle.std.specs.Prelude.{◌≡◌, ℕ, ◌<◌, ◌≤◌, List, [], ◌∷◌, Option, Some, None, Result, Ok, Err}
use Rattle.ctf_class.specs.declared.trace.TraceClass.{TraceClass}
use Rattle.ctf_class.specs.declared.route.Scope.{Scope}
use Rattle.ctf_class.specs.declared.route.Scope.TheVariants.{PacketHeader, PacketContext, EventHeader, StreamEventContext, EventContext, EventFields}
use Rattle.ctf_decode.specs.Known.{Known}
use Rattle.ctf_decode.specs.declared.value.Value.{Value}
use Rattle.ctf_packet.specs.Classes.{Classes}
use Rattle.ctf_packet.specs.Views.{values_of}
use Rattle.ctf_packet.specs.Items as items
use Rattle.ctf_packet.specs.Items.{Run, stops, before}
use Rattle.ctf_packet.specs.declared.fault.StreamFault.{StreamFault}
use Rattle.ctf_packet.specs.declared.fault.StreamFault.TheVariants as faults
use Rattle.ctf_fetch.specs.Fetching.{OrNoMemory}
use Rattle.ctf_stream.specs.Reader.{Peeked, start, item, ended, fault, Reader, coming}
use Rattle.ctf_stream.specs.declared.owned.OwnedEvent.{OwnedEvent}
use Rattle.ctf_stream.specs.declared.owned.OwnedGap.{OwnedGap}
use Rattle.ctf_stream.specs.declared.owned.OwnedItem.{OwnedItem}
use Rattle.ctf_stream.specs.declared.owned.OwnedItem.TheVariants as owned

-- an event record, whose packet ends at a byte of the stream and has so many
abbrev pub event_of : OwnedEvent → ℕ → ℕ → items.Event Classes
event_of e end length =
    record {
      class = record { stream = e.stream.now; event = e.class.now };
      clock = e.moment;
      values = values_of e.scopes;
      packet_end = end;
      packet_length = length;
    }

abbrev pub gap_of : OwnedGap → ℕ → ℕ → items.Gap
gap_of g end length = record {
  count = g.count;
  clock = g.moment;
  from = g.from;
  to = g.to;
  packet_end = end;
  packet_length = length;
}

abbrev pub item_of : OwnedItem → ℕ → ℕ → items.Item Classes
item_of (owned.Event e) end length = items.event (event_of e end length)
item_of (owned.Discarded g) end length = items.discarded (gap_of g end length)
item_of (owned.Lost g) end length = items.lost (gap_of g end length)

-- it has this trace class, or this name of its stream
abbrev pub IsOf : TraceClass → List ℕ → OwnedItem → Type 0
IsOf trace name (owned.Event e) = e.trace.now ≡ trace
IsOf trace name (owned.Discarded g) = g.name ≡ name
IsOf trace name (owned.Lost g) = g.name ≡ name

-- the value of a scope, or none
abbrev pub with_scope : Known → Scope → Option Value → Known
with_scope known PacketHeader value = record known { packet_header = value }
with_scope known PacketContext value = record known { packet_context = value }
with_scope known EventHeader value = record known { event_header = value }
with_scope known StreamEventContext value = record known { stream_event_context = value }
with_scope known EventContext value = record known { event_context = value }
with_scope known EventFields value = record known { event_fields = value }

-- The first item that was to come is given, out of a packet that ends where the bytes taken do and is held, and the
-- rest is to come; or nothing was to come; or a fault was, which comes again, or an allocation failed.
abbrev pub Gives : Run Classes → Reader → Result (Option OwnedItem) StreamFault → Type 0
Gives old new (Ok (Some x)) = old ≡ before (item_of x new.taken new.held ∷ []) (coming new)
Gives old new (Ok None) = (old ≡ stops None new.cut) × (coming new ≡ old)
Gives old new (Err f) =
    OrNoMemory (λ g. old ≡ stops (Some g) new.cut) f × (coming new ≡ stops (Some f) new.cut)

-- what comes next then: nothing yet after an item that was given, and the end or the fault that was reported
abbrev pub ahead_after : Result (Option OwnedItem) StreamFault → Peeked
ahead_after (Ok (Some x)) = start
ahead_after (Ok None) = ended
ahead_after (Err f) = fault f

-- a current item is the one that is given, out of the packet that is held, unless an allocation failed
abbrev pub GivesAhead : Peeked → Reader → Result (Option OwnedItem) StreamFault → Type 0
GivesAhead (item x) new (Ok (Some y)) = x ≡ item_of y new.taken new.held
GivesAhead (item x) new (Ok None) = ⊥
GivesAhead (item x) new (Err f) = f ≡ faults.NoMemory
GivesAhead start new result = Unit {0}
GivesAhead ended new result = result ≡ Ok None
GivesAhead (fault f) new result = result ≡ Err f

-- what is given has this trace class, or this name of its stream
abbrev pub GivesOf : TraceClass → List ℕ → Result (Option OwnedItem) StreamFault → Type 0
GivesOf trace name (Ok (Some x)) = IsOf trace name x
GivesOf trace name (Ok None) = Unit {0}
GivesOf trace name (Err f) = Unit {0}

-- an item that is given takes room
abbrev pub GivesRoom : ℕ → ℕ → Result (Option OwnedItem) StreamFault → Type 0
GivesRoom old new (Ok (Some x)) = new < old
GivesRoom old new (Ok None) = new ≤ old
GivesRoom old new (Err f) = new ≤ old

-- what comes after an item that is given stays
abbrev pub KeepsAfter : Run Classes → Run Classes → Result (Option OwnedItem) StreamFault → Type 0
KeepsAfter old new (Ok (Some x)) = new ≡ old
KeepsAfter old new (Ok None) = Unit {0}
KeepsAfter old new (Err f) = Unit {0}
