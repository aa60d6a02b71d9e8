-- Short words for texts and classes, in which the rows are written.
use Rattle.std.specs.Prelude.{ℕ, nat_eq, Bool, true, false, List, [], ◌∷◌, Option, Some, None, ℤ, codes, filter}
use Rattle.std.specs.List.{list_any}
use Rattle.tsdl_tree.specs.declared.tree.BlockKind.TheVariants as kind
use Rattle.tsdl_tree.specs.declared.tree.TableKind.TheVariants as table
use Rattle.tsdl_tree.specs.declared.tree.Container.{Container}
use Rattle.tsdl_tree.specs.declared.tree.Container.TheVariants as container
use Rattle.tsdl_tree.specs.declared.tree.Declarator.{Declarator}
use Rattle.tsdl_tree.specs.declared.tree.Length.{Length as WrittenLength}
use Rattle.tsdl_tree.specs.declared.tree.Setting.{Setting}
use Rattle.tsdl_tree.specs.declared.tree.Value.{Value}
use Rattle.tsdl_tree.specs.declared.tree.Value.TheVariants as value
use Rattle.tsdl_tree.specs.declared.tree.Number.{Number}
use Rattle.tsdl_tree.specs.declared.tree.Label.{Label as WrittenLabel}
use Rattle.ctf_bits.specs.declared.number.Order.{Order}
use Rattle.ctf_bits.specs.declared.number.Order.TheVariants.{Le}
use Rattle.ctf_class.specs.declared.class.Class.{Class, roll-Class}
use Rattle.ctf_class.specs.declared.class.Kind.{Kind}
use Rattle.ctf_class.specs.declared.class.Kind.TheVariants as class
use Rattle.ctf_class.specs.declared.class.Member.{Member, roll-Member}
use Rattle.ctf_class.specs.declared.integer.Integer.{Integer as ClassInteger}
use Rattle.ctf_class.specs.declared.integer.Base.{Base}
use Rattle.ctf_class.specs.declared.integer.Base.TheVariants as base
use Rattle.ctf_class.specs.declared.route.Scope.{Scope}
use Rattle.ctf_class.specs.declared.route.Origin.TheVariants as origin
use Rattle.ctf_class.specs.declared.route.Route.{Route}
use Rattle.ctf_class.specs.declared.route.Length.{Length}
use Rattle.ctf_class.specs.declared.route.Length.TheVariants as lengths
use Rattle.ctf_class.specs.declared.span.Label.{Label}
use Rattle.ctf_class.specs.declared.span.Choice.{Choice}
use Rattle.ctf_class.specs.declared.trace.Clock.{Clock}
use Rattle.ctf_class.specs.declared.trace.EventClass.{EventClass}
use Rattle.ctf_class.specs.Streams.{StreamClass}
use Rattle.ctf_class.specs.declared.trace.TraceClass.{TraceClass}
use Rattle.ctf_meaning.specs.declared.fault.ResolveFault.{ResolveFault}
use Rattle.ctf_meaning.specs.declared.fault.ResolveFault.TheVariants as fault
use Rattle.ctf_meaning.specs.Name.{Word, Words}
use Rattle.ctf_meaning.specs.Name as name
use Rattle.ctf_meaning.specs.Written.{Declaration, Form, Item, Block, Table, Assigned, Classed, Integer, Struct, Named, Fields, items_from}
use Rattle.ctf_meaning.specs.Faults.{faults}

-- texts

abbrev pub plus : ℕ → Number
plus n = record { is_negative = false; magnitude = n }

abbrev pub minus : ℕ → Number
minus n = record { is_negative = true; magnitude = n }

-- `n = v;`
abbrev pub set : Words → Value → Setting
set n v = record { name = n; value = v }

-- `n = 8;`, `n = word;`, `n = "text";`
abbrev pub counts : Word → ℕ → Setting
counts n k = set (n ∷ []) (value.Number (plus k))

abbrev pub says : Word → Word → Setting
says n w = set (n ∷ []) (value.Name (w ∷ []))

abbrev pub quotes : Word → Word → Setting
quotes n t = set (n ∷ []) (value.Text t)

-- `trace { major = 1; minor = 8; byte_order = le; };`, and with `be`
abbrev trace_of_order : Word → Declaration
trace_of_order order = Block kind.Trace (Assigned (counts (codes "major") 1) ∷ Assigned (counts (codes "minor") 8) ∷ Assigned (says (codes "byte_order") order) ∷ [])

abbrev pub le_trace : Declaration
le_trace = trace_of_order (codes "le")

abbrev pub be_trace : Declaration
be_trace = trace_of_order (codes "be")

-- `clock { name = "n"; };`
abbrev pub clock_named : Word → Declaration
clock_named n = Table table.Clock (quotes (codes "name") n ∷ [])

-- `integer { size = n; }`
abbrev pub sized : ℕ → Form
sized n = Integer (counts (codes "size") n ∷ [])

-- `struct { .. }`
abbrev pub structure : List Item → Form
structure is = Struct None (items_from is) None

-- a class by a name of one word
abbrev pub named : Word → Form
named w = Named (name.Plain (w ∷ [])) None

abbrev pub container_named : Words → Container
container_named ws = container.Named (record { words = ws })

abbrev pub declarator : Word → List WrittenLength → Declarator
declarator n ls = record { name = n; lengths = ls }

-- `class n;`
abbrev pub field : Form → Word → Item
field form n = Fields form (declarator n [] ∷ [])

-- `event { name = "n"; fields := struct { .. }; };`
abbrev pub event_with : List Item → Declaration
event_with is = Block kind.Event (Assigned (quotes (codes "name") (codes "n")) ∷ Classed (codes "fields" ∷ []) (structure is) ∷ [])

-- `n`, `n = a`, `n = a ... b`
abbrev pub bare : Word → WrittenLabel
bare n = record { name = n; span = None }

abbrev pub single : Word → Number → WrittenLabel
single n a = record { name = n; span = Some (record { first = a; last = None }) }

abbrev pub ranged : Word → Number → Number → WrittenLabel
ranged n a b = record { name = n; span = Some (record { first = a; last = Some b }) }

-- classes

-- size, sign, base, order, whether it moves the clock
abbrev pub number : ℕ → Bool → Base → Order → Bool → ClassInteger
number n s b o m = record { size = n; is_signed = s; base = b; order = o; is_moving = m }

-- alignment, depth, nodes, and what it is
abbrev pub made : ℕ → ℕ → ℕ → Kind → Class
made a d n k = roll-Class (record { align = a; depth = d; nodes = n; kind = k })

-- an unsigned decimal le integer of this size and alignment that moves no clock
abbrev pub unsigned : ℕ → ℕ → Class
unsigned n a = made a 1 1 (class.Integer (number n false base.Decimal Le false))

abbrev pub fixed : ℕ → Length
fixed = lengths.Fixed

abbrev pub counted : Route → Length
counted = lengths.Field

abbrev pub inside : ℕ → List ℕ → Route
inside n steps = record { origin = origin.Enclosing n; steps = steps }

abbrev pub before : Scope → List ℕ → Route
before s steps = record { origin = origin.Earlier s; steps = steps }

abbrev pub covers : Word → ℤ → ℤ → Label
covers n a b = record { name = n; span = record { first = a; last = b } }

abbrev pub choice : ℤ → ℤ → ℕ → Choice
choice a b k = record { span = record { first = a; last = b }; option = k }

abbrev pub member : Word → Class → Member
member n c = roll-Member (record { name = n; «class» = c })

abbrev pub clock : Word → ℕ → ℤ → ℤ → Clock
clock n f s o = record { name = n; frequency = f; offset_seconds = s; offset = o }

-- with the trace's host
abbrev pub event : Option Word → ℕ → Word → Option Class → Class → EventClass
event h i n c f = record { id = i; heading = record { host = h; name = n }; context = c; fields = f }

-- id, packet context, event header, stream event context, clock, events
abbrev pub stream : ℕ → Option Class → Option Class → Option Class → Option Clock → List EventClass → StreamClass
stream i p h c k es = record { id = i; packet_context = p; event_header = h; event_context = c; clock = k; events = es }

-- uuid, host, packet header, streams
abbrev pub trace : Option (List ℕ) → Option Word → Option Class → List StreamClass → TraceClass
trace u h p ss = record { uuid = u; host = h; packet_header = p; streams = ss }

-- that an event "n" of these fields is all
abbrev pub denotes_fields : Class → Option TraceClass
denotes_fields c = Some (trace None None None (stream 0 None None None None (event None 0 (codes "n") None c ∷ []) ∷ []))

-- faults

abbrev rank : ResolveFault → ℕ
rank fault.NoMemory = 0
rank fault.UnknownType = 1
rank fault.DeclaredTwice = 2
rank fault.Attribute = 3
rank fault.FloatingPoint = 4
rank fault.SizeOrAlignment = 5
rank fault.LengthOrTag = 6
rank fault.Clock = 7
rank fault.Twice = 8
rank fault.TooDeep = 9

-- the faults of which one is reported, each once and in the order of their codes
abbrev pub told : List Declaration → List ResolveFault
told text = filter (λ f. list_any (λ g. nat_eq (rank f) (rank g)) (faults text))
    (fault.UnknownType ∷ fault.DeclaredTwice ∷ fault.Attribute ∷ fault.FloatingPoint ∷ fault.SizeOrAlignment ∷ fault.LengthOrTag ∷ fault.Clock ∷ fault.Twice ∷ fault.TooDeep ∷ [])
