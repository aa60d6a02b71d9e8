-- The blocks of the metadata, each by itself: which settings and classes are in it. (CTF 1.8.3, sections 7.4 and 8,
-- appendix C.2.)
use Rattle.std.specs.Prelude.{ℕ, nat_eq, nat_lt, Bool, true, false, not, ◌||◌, if◌then◌else◌, List, [], ◌∷◌, ◌++◌, map, length, Option, Some, None, option_and_then, is_none, codes, filter, filter_map, flat_map}
use Rattle.std.specs.List.{list_any, enumerate_from}
use Rattle.std.specs.Option.{option_map_or}
use Rattle.uuid.specs.Text.{parsed}
use Rattle.tsdl_tree.specs.declared.tree.BlockKind.{BlockKind}
use Rattle.tsdl_tree.specs.declared.tree.BlockKind.TheVariants.{Trace, Stream, Event}
use Rattle.tsdl_tree.specs.declared.tree.TableKind.TheVariants as table
use Rattle.tsdl_tree.specs.declared.tree.Setting.{Setting}
use Rattle.tsdl_tree.specs.declared.tree.Value.{Value}
use Rattle.ctf_class.specs.declared.route.Scope.{Scope}
use Rattle.ctf_class.specs.declared.route.Scope.TheVariants.{PacketHeader, PacketContext, EventHeader, StreamEventContext, EventContext, EventFields}
use Rattle.ctf_class.specs.declared.trace.Clock.{Clock}
use Rattle.ctf_meaning.specs.declared.fault.ResolveFault.{ResolveFault}
use Rattle.ctf_meaning.specs.declared.fault.ResolveFault.TheVariants.{Attribute, Twice}
use Rattle.ctf_meaning.specs.Name.{Word, Words, same_word, same_words}
use Rattle.ctf_meaning.specs.Written.{Form, BlockEntry, Declaration, Assigned, Classed, Block, Table}
use Rattle.ctf_meaning.specs.There.{first}
use Rattle.ctf_meaning.specs.Settings.{when, one, attribute, is_count, count_of, text_of, trace_order_of, wrong}
use Rattle.ctf_meaning.specs.Paths.{scopes}
use Rattle.ctf_meaning.specs.Clocks as clock

abbrev pub two : Word → Word → Words
two a b = a ∷ b ∷ []

abbrev pub same_kind : BlockKind → BlockKind → Bool
same_kind Trace Trace = true
same_kind Stream Stream = true
same_kind Event Event = true
same_kind _ _ = false

-- In which block a scope is declared, and under which name.
abbrev pub block_of : Scope → BlockKind
block_of PacketHeader = Trace
block_of PacketContext = Stream
block_of EventHeader = Stream
block_of StreamEventContext = Stream
block_of EventContext = Event
block_of EventFields = Event

abbrev pub entry_name : Scope → Words
entry_name PacketHeader = two (codes "packet") (codes "header")
entry_name PacketContext = two (codes "packet") (codes "context")
entry_name EventHeader = two (codes "event") (codes "header")
entry_name StreamEventContext = two (codes "event") (codes "context")
entry_name EventContext = one (codes "context")
entry_name EventFields = one (codes "fields")

-- the scopes that a block of this kind declares
abbrev pub own_scopes : BlockKind → List Scope
own_scopes which = filter (λ scope. same_kind which (block_of scope)) scopes

-- The names with a meaning in a block: those of values, and those of classes.
abbrev pub values_in : BlockKind → List Words
values_in Trace = map one (codes "major" ∷ codes "minor" ∷ codes "byte_order" ∷ codes "uuid" ∷ [])
values_in Stream = one (codes "id") ∷ []
values_in Event = map one (codes "name" ∷ codes "id" ∷ codes "stream_id" ∷ [])

abbrev pub classes_in : BlockKind → List Words
classes_in which = map entry_name (own_scopes which)

-- The entry is a value, or a class, of this name. Names are compared by their words (own).
abbrev pub is_value_of : Words → BlockEntry → Bool
is_value_of name (Assigned setting) = same_words setting.name name
is_value_of name _ = false

abbrev pub is_class_of : Words → BlockEntry → Bool
is_class_of name (Classed words form) = same_words words name
is_class_of name _ = false

-- A name with a meaning that is there twice in one block, whatever its entries are: R3 (own).
abbrev pub stands_twice : List BlockEntry → Words → Bool
stands_twice entries name =
    nat_lt 1 (length (filter (λ e. is_value_of name e || is_class_of name e) entries))

-- A name with a meaning and the wrong kind of entry: R3 (own).
abbrev pub entry_faults : BlockKind → List BlockEntry → List ResolveFault
entry_faults which entries =
    flat_map (λ name. when (stands_twice entries name) Attribute)
    (values_in which ++ classes_in which)
    ++ flat_map (λ name. when (list_any (is_class_of name) entries) Attribute) (values_in which)
    ++ flat_map (λ name. when (list_any (is_value_of name) entries) Attribute) (classes_in which)

abbrev pub setting_of : BlockEntry → Option Setting
setting_of (Assigned setting) = Some setting
setting_of _ = None

-- the value of the first setting of this name in a block
abbrev pub value_at : List BlockEntry → Word → Option Value
value_at entries word = attribute (filter_map setting_of entries) (one word)

-- the class entries of this name, each with its number in the block
abbrev pub class_by : Words → ℕ × BlockEntry → Option (ℕ × Form)
class_by name (number, Classed words form) =
    if same_words words name then Some (number, form) else None
class_by name _ = None

abbrev pub class_entries : List BlockEntry → Words → List (ℕ × Form)
class_entries entries name = filter_map (class_by name) (enumerate_from 0 entries)

-- Of several, which is R3, the first is the scope's class (own).
abbrev pub class_entry : List BlockEntry → Words → Option (ℕ × Form)
class_entry entries name = first (class_entries entries name)

-- The uuid of a trace is a text that reads as one.
abbrev pub uuid_of : Value → Option (List ℕ)
uuid_of value = option_and_then parsed (text_of value)

-- The id of a stream or an event is a number from 0 on, 0 where it is missing (own).
abbrev pub id_of : List BlockEntry → Option ℕ
id_of entries = option_map_or count_of (value_at entries (codes "id")) (Some 0)

-- A trace has version 1.8 and a byte order; a uuid, if at all: else R3.
abbrev pub trace_faults : List BlockEntry → List ResolveFault
trace_faults entries =
    when (not (option_map_or (is_count 1) (value_at entries (codes "major")) false)) Attribute
    ++ when (not (option_map_or (is_count 8) (value_at entries (codes "minor")) false)) Attribute
    ++ when (is_none (option_and_then trace_order_of (value_at entries (codes "byte_order"))))
    Attribute
    ++ wrong uuid_of (value_at entries (codes "uuid"))

abbrev pub stream_faults : List BlockEntry → List ResolveFault
stream_faults entries = wrong count_of (value_at entries (codes "id"))

-- An event has a name.
abbrev pub event_faults : List BlockEntry → List ResolveFault
event_faults entries =
    when (is_none (option_and_then text_of (value_at entries (codes "name")))) Attribute
    ++ wrong count_of (value_at entries (codes "id"))
    ++ wrong count_of (value_at entries (codes "stream_id"))

-- what is wrong with the settings and the names of a block
abbrev pub block_faults : Declaration → List ResolveFault
block_faults (Block Trace entries) = entry_faults Trace entries ++ trace_faults entries
block_faults (Block Stream entries) = entry_faults Stream entries ++ stream_faults entries
block_faults (Block Event entries) = entry_faults Event entries ++ event_faults entries
block_faults (Table table.Clock settings) = clock.clock_faults settings
block_faults _ = []

abbrev pub is_trace : Declaration → Bool
is_trace (Block Trace entries) = true
is_trace _ = false

abbrev pub stream_id_of : Declaration → Option ℕ
stream_id_of (Block Stream entries) = id_of entries
stream_id_of _ = None

abbrev pub clock_of : Declaration → Option Clock
clock_of (Table table.Clock settings) = clock.clock_by settings
clock_of _ = None

abbrev pub clocks_of : List Declaration → List Clock
clocks_of = filter_map clock_of

-- Two `trace` blocks, two streams of one id, two clocks of one name: R8, in the later one. A faulty id or name equals
-- none (own).
abbrev pub twice_faults : List Declaration → Declaration → List ResolveFault
twice_faults before (Block Trace entries) = when (list_any is_trace before) Twice
twice_faults before (Block Stream entries) =
    option_map_or (λ id. when (list_any (nat_eq id) (filter_map stream_id_of before)) Twice)
    (id_of entries) []
twice_faults before (Table table.Clock settings) =
    option_map_or (λ c. when (list_any (λ b. same_word b.name c.name) (clocks_of before)) Twice)
    (clock.clock_by settings) []
twice_faults before _ = []
