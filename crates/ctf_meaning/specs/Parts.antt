-- The parts of a text and their places: each declaration, each entry of a block and each item of a body is a part.
-- (CTF 1.8.3, section 7.3.1: scopes are those of the braces.)
use Rattle.std.specs.Prelude.{ℕ, ◌+◌, List, [], ◌∷◌, ◌++◌, map, Option, Some, None}
use Rattle.std.specs.Option.{option_map_or}
use Rattle.tsdl_tree.specs.declared.tree.Length.{Length}
use Rattle.tsdl_tree.specs.declared.tree.Setting.{Setting}
use Rattle.tsdl_tree.specs.declared.tree.Container.{Container}
use Rattle.tsdl_tree.specs.declared.tree.Container.TheVariants as container
use Rattle.ctf_meaning.specs.Name.{Name}
use Rattle.ctf_meaning.specs.Name as name
use Rattle.ctf_meaning.specs.Written.{Form, Item, Items, BlockEntry, Declaration, Integer, Float, String, Struct, Variant, Enum, Fields, Alias, Definition, Compound, no_item, some_items, Assigned, Classed, Declared, Block, Table, Names, form_in}

pub data Part : Type 0 where
  of_text : Declaration → Part
  of_block : BlockEntry → Part
  of_body : Item → Part

-- the class that is written in a part, outside of the part's own parts
abbrev pub class_of : Part → Option Form
class_of (of_text (Names item)) = Some (form_in item)
class_of (of_text _) = None
class_of (of_block (Assigned setting)) = None
class_of (of_block (Classed words form)) = Some form
class_of (of_block (Declared item)) = Some (form_in item)
class_of (of_body item) = Some (form_in item)

-- The place of a part is the numbers of the parts that lead to it, the innermost first: its number among the parts of
-- its block, then the place of the part whose braces are the block. The text itself is the block [].
abbrev pub Place : Type 0
Place = List ℕ

-- A name that a part gives to its class, and the lengths of the arrays that it puts around the class.
pub record Given : Type 0 where
  pub name : Name
  pub lengths : List Length

-- a name for the class as it is
abbrev pub plainly : Name → Given
plainly name = record { name = name; lengths = [] }

-- A compound with a name and a body declares its name in the scope in which it is.
abbrev pub own_name : Form → List Given
own_name (Struct (Some word) is align) = plainly (name.Struct word) ∷ []
own_name (Variant (Some word) tag is) = plainly (name.Variant word) ∷ []
own_name (Enum (Some word) c labels) = plainly (name.Enum word) ∷ []
own_name _ = []

-- A `typealias` declares its words, a `typedef` each of its declarators with its arrays. (7.2.)
abbrev pub given_in : Item → List Given
given_in (Fields form declarators) = own_name form
given_in (Alias form words) = own_name form ++ plainly (name.Plain words) ∷ []
given_in (Definition form declarators) =
    own_name form
    ++ map (λ d. record { name = name.Plain (d.name ∷ []); lengths = d.lengths }) declarators
given_in (Compound form) = own_name form

-- the names that a part declares in its block
abbrev pub given_of : Part → List Given
given_of (of_text (Names item)) = given_in item
given_of (of_text _) = []
given_of (of_block (Assigned setting)) = []
given_of (of_block (Classed words form)) = own_name form
given_of (of_block (Declared item)) = given_in item
given_of (of_body item) = given_in item

-- the settings that are in a part, outside of its own parts, those with no meaning among them
abbrev settings_in_container : Option Container → List Setting
settings_in_container (Some (container.Integer settings)) = settings
settings_in_container _ = []

abbrev pub settings_in_form : Form → List Setting
settings_in_form (Integer settings) = settings
settings_in_form (Float settings) = settings
settings_in_form (String settings) = settings
settings_in_form (Enum name c labels) = settings_in_container c
settings_in_form _ = []

abbrev pub settings_in : Part → List Setting
settings_in (of_text (Table kind settings)) = settings
settings_in (of_block (Assigned setting)) = setting ∷ []
settings_in part = option_map_or settings_in_form (class_of part) []

-- A part with its place. The parts of a text are listed in the order of their ends: what is in a part is before it.
abbrev pub Located : Type 0
Located = Place × Part

abbrev mutual
  -- the parts in the body of a class
  pub located_form : Place → Form → List Located
  located_form at (Struct name is align) = located_items at 0 is
  located_form at (Variant name tag is) = located_items at 0 is
  located_form at _ = []

  -- the parts in an item, and the part that the item is
  pub located_item : Place → Part → Item → List Located
  located_item at part (Fields form declarators) = located_form at form ++ (at, part) ∷ []
  located_item at part (Alias form words) = located_form at form ++ (at, part) ∷ []
  located_item at part (Definition form declarators) = located_form at form ++ (at, part) ∷ []
  located_item at part (Compound form) = located_form at form ++ (at, part) ∷ []

  pub located_items : Place → ℕ → Items → List Located
  located_items block number no_item = []
  located_items block number (some_items i is) =
      located_item (number ∷ block) (of_body i) i ++ located_items block (number + 1) is

abbrev pub located_entry : Place → BlockEntry → List Located
located_entry at (Assigned setting) = (at, of_block (Assigned setting)) ∷ []
located_entry at (Classed words form) =
    located_form at form ++ (at, of_block (Classed words form)) ∷ []
located_entry at (Declared item) = located_item at (of_block (Declared item)) item

abbrev pub located_entries : Place → ℕ → List BlockEntry → List Located
located_entries block number [] = []
located_entries block number (e ∷ es) =
    located_entry (number ∷ block) e ++ located_entries block (number + 1) es

abbrev pub located : Place → Declaration → List Located
located at (Block kind entries) =
    located_entries at 0 entries ++ (at, of_text (Block kind entries)) ∷ []
located at (Table kind settings) = (at, of_text (Table kind settings)) ∷ []
located at (Names item) = located_item at (of_text (Names item)) item

-- the parts of a text from a declaration on, which has this number
abbrev pub located_from : ℕ → List Declaration → List Located
located_from number [] = []
located_from number (d ∷ ds) = located (number ∷ []) d ++ located_from (number + 1) ds
