-- Small classes, and what is compared of a stream's items.
use Rattle.std.specs.Prelude.{ℕ, ℤ, pos, Bool, true, false, List, [], ◌∷◌, map, Option, Some, None, codes}
use Rattle.ctf_bits.specs.declared.number.Order.{Order}
use Rattle.ctf_bits.specs.declared.number.Order.TheVariants.{Be}
use Rattle.ctf_bits.specs.declared.source.Ending.{Ending}
use Rattle.ctf_class.specs.declared.integer.Integer.{Integer}
use Rattle.ctf_class.specs.declared.integer.Base.TheVariants.{Decimal}
use Rattle.ctf_class.specs.declared.route.Route.{Route}
use Rattle.ctf_class.specs.declared.route.Origin.TheVariants.{Enclosing}
use Rattle.ctf_class.specs.declared.span.Choice.{Choice}
use Rattle.ctf_clock.specs.declared.moment.Moment.{Moment}
use Rattle.ctf_clock.specs.Clock.{Line}
pub use Rattle.ctf_decode.specs.Forms.{Form}
use Rattle.ctf_decode.specs.Forms.{Part, integer, enumeration, structure, variant, parts_of}
use Rattle.ctf_packet.specs.Classes.{EventForm, StreamForm, TraceForm}
use Rattle.ctf_packet.specs.Items.{Item, event, discarded, lost, Run, run_of}
use Rattle.ctf_packet.specs.declared.fault.StreamFault.{StreamFault}

-- an integer of some bits, and one that sets the clock
abbrev pub number : Order → ℕ → Bool → Bool → Integer
number order size signed moving = record { size = size; is_signed = signed; base = Decimal; order = order; is_moving = moving }

abbrev pub plain : Order → ℕ → Form
plain order size = integer 8 (number order size false false)

abbrev pub moving : Order → ℕ → ℕ → Form
moving order align size = integer align (number order size false true)

abbrev pub only_fields : Form
only_fields = structure 1 (parts_of [])

-- an event class without a context and without fields
abbrev pub bare : ℕ → EventForm ℕ
bare id = record { class = id; id = id; context = None; fields = only_fields }

-- nanoseconds since the epoch
abbrev pub nanos : Line
nanos = record { start = pos 0; offset = pos 0; frequency = 1000000000 }

abbrev pub context_of : Option (List Part) → Option Form
context_of (Some ps) = Some (structure 8 (parts_of ps))
context_of None = None

abbrev pub Event : Type 0
Event = EventForm ℕ

abbrev pub Stream : Type 0
Stream = StreamForm ℕ

abbrev pub Trace : Type 0
Trace = TraceForm ℕ

abbrev pub one_stream : Option (List Part) → Option Form → Option Line → List (EventForm ℕ) → TraceForm ℕ
one_stream context header line events =
    record { uuid = None; packet_header = None; streams = record { id = 0; packet_context = context_of context; event_header = header; event_context = None; line = line; events = events } ∷ [] }

-- what is compared of an item: its class and cycles; or its count, and the cycles at which it is and between
-- which
pub data Brief : Type 0 where
  told : ℕ → Option ℕ → Brief
  dropped : ℕ → Option ℕ → Option ℕ → Option ℕ → Brief
  missed : ℕ → Option ℕ → Option ℕ → Option ℕ → Brief

abbrev pub cycles_of : Option Moment → Option ℕ
cycles_of (Some m) = Some m.cycles
cycles_of None = None

abbrev pub brief : Item ℕ → Brief
brief (event e) = told e.class (cycles_of e.clock)
brief (discarded g) = dropped g.count (cycles_of g.clock) (cycles_of g.from) (cycles_of g.to)
brief (lost g) = missed g.count (cycles_of g.clock) (cycles_of g.from) (cycles_of g.to)

-- the items of a stream, and how and where it ends
abbrev pub Shown : Type 0
Shown = List Brief × Option StreamFault × ℕ

abbrev pub shown : Run ℕ → Shown
shown run = (map brief run.items, run.fault, run.at)

abbrev pub items_of : TraceForm ℕ → Ending → List ℕ → Shown
items_of trace ending bytes = shown (run_of trace ending bytes)

-- `{ id : 5 bits; v <id> { 0 to 30: a stamp of 27 bits; 31: an id of 32 bits and a stamp of 64 bits } } align(8)`
abbrev pub first_member : Route
first_member = record { origin = Enclosing 0; steps = 0 ∷ [] }

abbrev pub covers : ℕ → ℕ → ℕ → Choice
covers first last option = record { span = record { first = pos first; last = pos last }; option = option }

abbrev pub two_headers : Order → Form
two_headers order =
    structure 8 (parts_of (
    (codes "id", enumeration 1 (number order 5 false false))
    ∷ (
      codes "v",
      variant 1 first_member (covers 0 30 0 ∷ covers 31 31 1 ∷ []) (parts_of (
          (codes "compact", structure 1 (parts_of ((codes "timestamp", moving order 1 27) ∷ [])))
          ∷ (codes "extended", structure 8 (parts_of ((codes "id", plain order 32) ∷ (codes "timestamp", moving order 8 64) ∷ [])))
          ∷ [])),
    )
    ∷ []))

abbrev pub three_events : List (EventForm ℕ)
three_events = bare 0 ∷ bare 5 ∷ bare 40 ∷ []

-- a trace in the manner of LTTng's compact headers, in one order of bytes
abbrev pub compact : Order → TraceForm ℕ
compact order = one_stream None (Some (two_headers order)) (Some nanos) three_events

-- sizes of packet and content and a count of discarded event records, of 8 bits each; a stamp of 8 bits
abbrev pub counted : List Part → TraceForm ℕ
counted more =
    one_stream (Some (
    (codes "packet_size", plain Be 8)
    ∷ (codes "content_size", plain Be 8)
    ∷ (codes "events_discarded", plain Be 8)
    ∷ more)) (Some (structure 8 (parts_of ((codes "timestamp", moving Be 8 8) ∷ [])))) (Some nanos) (bare 0 ∷ [])

-- the times of a stream's items
abbrev pub time_in : Option Moment → Option ℤ
time_in (Some m) = Some m.time
time_in None = None

abbrev pub time_of_item : Item ℕ → Option ℤ
time_of_item (event e) = time_in e.clock
time_of_item (discarded g) = time_in g.clock
time_of_item (lost g) = time_in g.clock

abbrev pub times_of : TraceForm ℕ → Ending → List ℕ → List (Option ℤ)
times_of trace ending bytes = map time_of_item (run_of trace ending bytes).items
