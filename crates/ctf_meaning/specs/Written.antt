-- A metadata text as plain data: its declarations, the entries of their blocks, the items of bodies, and classes as
-- they are written. (CTF 1.8.3, section 7 and appendix C.2.)
use Rattle.std.specs.Prelude.{ℕ, List, [], ◌∷◌, Option}
use Rattle.tsdl_tree.specs.declared.tree.BlockKind.{BlockKind}
use Rattle.tsdl_tree.specs.declared.tree.TableKind.{TableKind}
use Rattle.tsdl_tree.specs.declared.tree.Setting.{Setting}
use Rattle.tsdl_tree.specs.declared.tree.Declarator.{Declarator}
use Rattle.tsdl_tree.specs.declared.tree.Container.{Container}
use Rattle.tsdl_tree.specs.declared.tree.Label.{Label}
use Rattle.ctf_meaning.specs.Name.{Word, Words, Name}

mutual
  -- A class as it is written. A compound without a body is a name.
  pub data Form : Type 0 where
    Integer : List Setting → Form
    Float : List Setting → Form
    String : List Setting → Form
    -- its name, where it has one, the items of its body, and its `align(N)`
    Struct : Option Word → Items → Option ℕ → Form
    -- its name, its tag, and the items of its body
    Variant : Option Word → Option Words → Items → Form
    -- its name, its container, and its labels
    Enum : Option Word → Option Container → List Label → Form
    -- a name, and the tag that is written after a variant's
    Named : Name → Option Words → Form

  -- What is in the body of a structure or a variant: members or options of a class, or a declaration of names.
  pub data Item : Type 0 where
    Fields : Form → List Declarator → Item
    -- `typealias class := words;`
    Alias : Form → Words → Item
    -- `typedef class declarator, ..;`
    Definition : Form → List Declarator → Item
    -- a compound with a name and a body, for itself
    Compound : Form → Item

  pub data Items : Type 0 where
    no_item : Items
    some_items : Item → Items → Items

-- what is in the braces of a trace, a stream or an event
pub data BlockEntry : Type 0 where
  -- `name = value;`
  Assigned : Setting → BlockEntry
  -- `name := class;`
  Classed : Words → Form → BlockEntry
  -- a declaration of names
  Declared : Item → BlockEntry

-- a block, or a declaration of names
pub data Declaration : Type 0 where
  -- a trace, a stream or an event
  Block : BlockKind → List BlockEntry → Declaration
  -- a clock, an environment or a call site
  Table : TableKind → List Setting → Declaration
  Names : Item → Declaration

abbrev pub items_from : List Item → Items
items_from [] = no_item
items_from (i ∷ is) = some_items i (items_from is)

abbrev pub items_in : Items → List Item
items_in no_item = []
items_in (some_items i is) = i ∷ items_in is

-- the items in the braces of a structure or a variant
abbrev pub items_of : Form → Items
items_of (Struct name is align) = is
items_of (Variant name tag is) = is
items_of _ = no_item

abbrev pub body_of : Form → List Item
body_of form = items_in (items_of form)

-- the class that is written in an item, outside of the item's own body
abbrev pub form_in : Item → Form
form_in (Fields form declarators) = form
form_in (Alias form words) = form
form_in (Definition form declarators) = form
form_in (Compound form) = form
