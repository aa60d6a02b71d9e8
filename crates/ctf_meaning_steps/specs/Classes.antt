-- What a class that is written is, by the names that it sees; with its members, where it is a compound.
use Rattle.std.specs.Prelude.{nat_lt, Bool, List, [], map, Option, Some, None, Ok, Err}
use Rattle.std.specs.List.{list_any}
use Rattle.std.specs.Option.{option_map_or}
use Rattle.tsdl_tree.specs.declared.tree.Container.{Container}
use Rattle.tsdl_tree.specs.declared.tree.Container.TheVariants as container
use Rattle.tsdl_tree.specs.declared.tree.Label.{Label}
use Rattle.tsdl_tree.specs.declared.tree.Setting.{Setting}
use Rattle.ctf_meaning.specs.declared.fault.ResolveFault.{ResolveFault}
use Rattle.ctf_meaning.specs.declared.fault.ResolveFault.TheVariants.{UnknownType, DeclaredTwice, Attribute, TooDeep}
use Rattle.ctf_meaning.specs.declared.integer.DeclaredInteger.{DeclaredInteger}
use Rattle.ctf_meaning.specs.Name.{Name, same_word}
use Rattle.ctf_meaning.specs.Written.{Item, Fields}
use Rattle.ctf_meaning.specs.Settings.{when, minus_faults, string_faults}
use Rattle.ctf_meaning.specs.Integers.{integer_faults, integer_of}
use Rattle.ctf_meaning.specs.Labels.{labels_of}
use Rattle.ctf_meaning.specs.Labels as labels
use Rattle.ctf_meaning.specs.Shapes.{Shape, Field, string, enum, integer_in, container_name, declared, depth_of}
use Rattle.ctf_meaning.specs.Own.{most_deep, has_twins}
use Rattle.ctf_meaning_steps.specs.Told.{Told, ◌>>=◌, unless, there_or}
use Rattle.ctf_meaning_steps.specs.Seen.{Seen}

-- an integer of these settings
abbrev pub integer_told : List Setting → Told DeclaredInteger
integer_told settings =
    unless (minus_faults settings) (unless (integer_faults settings) (Ok (integer_of settings)))

-- a string of these settings
abbrev pub string_told : List Setting → Told Shape
string_told settings = unless (minus_faults settings) (unless (string_faults settings) (Ok string))

-- the class of a name
abbrev pub named_told : Seen → Name → Told Shape
named_told seen name = there_or UnknownType (seen name)

-- the integer that holds an enumeration's numbers
abbrev pub container_told : Seen → Option Container → Told DeclaredInteger
container_told seen (Some (container.Integer settings)) = integer_told settings
container_told seen (Some (container.Named typename)) =
    named_told seen (Name.Plain typename.words) >>= λ shape. there_or Attribute (integer_in shape)
container_told seen None =
    option_map_or (λ name. named_told seen name >>= λ shape. there_or Attribute (integer_in shape))
    (container_name None) (Err UnknownType)

abbrev pub enum_told : Seen → Option Container → List Label → Told Shape
enum_told seen c ls =
    container_told seen c >>= λ i. unless (labels.label_faults ls) (Ok (enum i (labels_of ls)))

-- a structure or a variant, whose members have different names
abbrev pub compound_told : List Field → Shape → Told Shape
compound_told fields shape =
    unless (when (has_twins same_word (map (λ f. f.name) fields)) DeclaredTwice) (Ok shape)

-- the members that an item declares for its class
abbrev pub fields_told : Item → Shape → List Field
fields_told (Fields form declarators) shape = declared (Some shape) declarators
fields_told _ shape = []

-- some member is deeper than classes may be, and so is the compound around it
abbrev pub has_deep : List Field → Bool
has_deep fields = list_any (λ f. nat_lt most_deep (depth_of f.shape)) fields

abbrev pub field_faults : List Field → List ResolveFault
field_faults fields = when (has_deep fields) TooDeep
