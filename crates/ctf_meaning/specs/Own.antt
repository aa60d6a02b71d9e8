-- What is wrong with a part of the text by itself and by what is before it.
-- (CTF 1.8.3, sections 4 and 7.3; which rule is which fault is own.)
use Rattle.std.specs.Prelude.{ℕ, nat_lt, Bool, false, not, ◌||◌, List, [], ◌∷◌, ◌++◌, map, Option, Some, None, is_none, is_some, flat_map, option_and_then}
use Rattle.std.specs.List.{list_any}
use Rattle.std.specs.Option.{option_map_or}
use Rattle.tsdl_tree.specs.declared.tree.Container.{Container}
use Rattle.tsdl_tree.specs.declared.tree.Container.TheVariants as container
use Rattle.tsdl_tree.specs.declared.tree.Length.{Length}
pub use Rattle.ctf_class.specs.SameNames.{has_twins}
use Rattle.ctf_meaning.specs.declared.fault.ResolveFault.{ResolveFault}
use Rattle.ctf_meaning.specs.declared.fault.ResolveFault.TheVariants.{UnknownType, DeclaredTwice, Attribute, SizeOrAlignment, TooDeep}
use Rattle.ctf_meaning.specs.Name.{Word, Name, same_word, same_name}
use Rattle.ctf_meaning.specs.Written.{Declaration, Form, Item, Integer, String, Struct, Enum, Named, Fields, body_of}
use Rattle.ctf_meaning.specs.Parts.{Place, Located, located, class_of, given_of, settings_in}
use Rattle.ctf_meaning.specs.Names.{Entry, meaning, earlier_entry, shape_named, shape_of}
use Rattle.ctf_meaning.specs.Settings.{when, string_faults, minus_faults}
use Rattle.ctf_meaning.specs.Integers.{integer_faults, is_alignment}
use Rattle.ctf_meaning.specs.Labels.{labels_of}
use Rattle.ctf_meaning.specs.Labels as labels
use Rattle.ctf_meaning.specs.Shapes.{Shape, depth_of, arrays, integer_in, container_name}

-- the greatest depth of a class (own)
abbrev pub most_deep : ℕ
most_deep = 64

-- the name of an enumeration's container, and the name that a class uses outside of its body
abbrev pub container_in : Form → Option Name
container_in (Enum name c ls) = container_name c
container_in _ = None

abbrev pub use_in : Form → Option Name
use_in (Named name tag) = Some name
use_in form = container_in form

-- what is wrong with the settings of an integer, a string or a container
abbrev pub container_faults : Option Container → List ResolveFault
container_faults (Some (container.Integer settings)) = integer_faults settings
container_faults _ = []

abbrev pub attribute_faults : Form → List ResolveFault
attribute_faults (Integer settings) = integer_faults settings
attribute_faults (String settings) = string_faults settings
attribute_faults (Enum name c ls) = container_faults c
attribute_faults _ = []

-- what is wrong with the labels of an enumeration
abbrev pub label_faults : Form → List ResolveFault
label_faults (Enum name c ls) = labels.label_faults ls
label_faults _ = []

-- The `align(N)` of a structure is a power of two from 1 to 2^31, else R5.
abbrev pub structure_faults : Option ℕ → List ResolveFault
structure_faults align = option_map_or (λ n. when (not (is_alignment n)) SizeOrAlignment) align []

abbrev pub align_faults : Form → List ResolveFault
align_faults (Struct name is align) = structure_faults align
align_faults _ = []

-- Two members or options of one name: R2.
abbrev pub field_names : Item → List Word
field_names (Fields form declarators) = map (λ d. d.name) declarators
field_names _ = []

abbrev pub member_faults : Form → List ResolveFault
member_faults form = when (has_twins same_word (flat_map field_names (body_of form))) DeclaredTwice

module _ (entries : List Entry) where
  -- A name that is not declared before its use: R1.
  abbrev pub unknown_faults : Place → Form → List ResolveFault
  unknown_faults at form =
      option_map_or (λ name. when (is_none (meaning entries at name)) UnknownType) (use_in form) []

  -- A container that is known and no integer: R3.
  abbrev pub no_integer_faults : Place → Form → List ResolveFault
  no_integer_faults at form =
      option_map_or (λ shape. when (is_none (integer_in shape)) Attribute)
      (option_and_then (shape_named entries at) (container_in form)) []

  -- what is wrong with the class that is written at a place, outside of its body
  abbrev pub class_faults : Place → Form → List ResolveFault
  class_faults at form =
      unknown_faults at form ++ member_faults form ++ attribute_faults form
      ++ no_integer_faults at form ++ label_faults form ++ align_faults form

  -- A class deeper than 64, with the arrays of each name that it is given: R9. A member's own arrays lie in the
  -- compound around it, which is deeper and is in the same declaration.
  abbrev pub is_deep : Shape → List Length → Bool
  is_deep shape lengths = nat_lt most_deep (depth_of (arrays lengths shape))

  abbrev pub depth_faults : Located → List ResolveFault
  depth_faults (at, part) =
      option_map_or
      (λ shape.
      when (list_any (is_deep shape) ([] ∷ map (λ g. g.lengths) (given_of part))) TooDeep)
      (option_and_then (shape_of entries at) (class_of part)) []

  -- A name that an earlier part of the block declares, or this one twice: R2.
  abbrev pub is_taken : Place → Name → Bool
  is_taken [] name = false
  is_taken (number ∷ block) name = is_some (earlier_entry entries block number name)

  abbrev pub name_faults : Located → List ResolveFault
  name_faults (at, part) =
      when
      (list_any (λ g. is_taken at g.name) (given_of part)
      || has_twins same_name (map (λ g. g.name) (given_of part)))
      DeclaredTwice

  abbrev pub part_faults : Located → List ResolveFault
  part_faults (at, part) =
      option_map_or (class_faults at) (class_of part) [] ++ depth_faults (at, part)
      ++ name_faults (at, part) ++ minus_faults (settings_in part)

  -- what is wrong with a declaration and the parts in it, at whatever depth
  abbrev pub faults_within : ℕ → Declaration → List ResolveFault
  faults_within number d = flat_map part_faults (located (number ∷ []) d)
