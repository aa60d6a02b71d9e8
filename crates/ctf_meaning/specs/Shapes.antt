-- Classes by their declaration alone: names are replaced by what they mean, paths are as written.
-- (CTF 1.8.3, sections 4 and 7.2: typealias, typedef, named compounds.)
use Rattle.std.specs.Prelude.{ℕ, ◌+◌, max, Bool, true, false, ◌||◌, List, [], ◌∷◌, ◌++◌, Option, Some, None, unwrap_or, option_map, option_and_then, codes}
use Rattle.tsdl_tree.specs.declared.tree.Declarator.{Declarator}
use Rattle.tsdl_tree.specs.declared.tree.Length.{Length}
use Rattle.tsdl_tree.specs.declared.tree.Length.TheVariants.{Constant, Path}
use Rattle.tsdl_tree.specs.declared.tree.Container.{Container}
use Rattle.tsdl_tree.specs.declared.tree.Container.TheVariants as container
use Rattle.ctf_class.specs.declared.span.Label.{Label}
use Rattle.ctf_meaning.specs.Name.{Word, Words, Name}
use Rattle.ctf_meaning.specs.Name as name
use Rattle.ctf_meaning.specs.Written.{Form, Item, Items, Integer, Float, String, Struct, Variant, Enum, Named, Fields, Alias, Definition, Compound, no_item, some_items}
use Rattle.ctf_meaning.specs.Parts.{Place}
use Rattle.ctf_meaning.specs.declared.integer.DeclaredInteger.{DeclaredInteger}
use Rattle.ctf_meaning.specs.Integers.{good_integer}
use Rattle.ctf_meaning.specs.Labels.{labels_of}

mutual
  pub data Shape : Type 0 where
    integer : DeclaredInteger → Shape
    float : Shape
    string : Shape
    -- its container and its labels
    enum : DeclaredInteger → List Label → Shape
    -- its alignment and its members
    struct : ℕ → Members → Shape
    -- its tag, where it has one, and its options
    variant : Option Words → Members → Shape
    array : ℕ → Shape → Shape
    sequence : Words → Shape → Shape

  pub data Members : Type 0 where
    no_member : Members
    member : Word → Shape → Members → Members

-- a member of a structure, or an option of a variant
pub record Field : Type 0 where
  pub name : Word
  pub shape : Shape

abbrev pub fields_in : Members → List Field
fields_in no_member = []
fields_in (member word shape more) = record { name = word; shape = shape } ∷ fields_in more

abbrev pub members_from : List Field → Members
members_from [] = no_member
members_from (f ∷ fs) = member f.name f.shape (members_from fs)

-- Alignment: an enumeration's is that of its container, a string's 8; an array's is that of its element, also where it
-- holds none. A variant counts 1 (own). (4.1.2, 4.2.)
abbrev pub align_of : Shape → ℕ
align_of (integer i) = i.align
align_of (enum i labels) = i.align
align_of string = 8
align_of (struct align members) = align
align_of (array count element) = align_of element
align_of (sequence path element) = align_of element
align_of (variant tag options) = 1
align_of float = 1

-- the largest of a number and of the members' alignments
abbrev pub largest : ℕ → List Field → ℕ
largest least [] = least
largest least (f ∷ fs) = max (align_of f.shape) (largest least fs)

-- A structure's alignment is the largest of its members' and of its `align(N)`; that of an empty one is 1. (4.2.1.)
abbrev pub structure : Option ℕ → List Field → Shape
structure align fields = struct (largest (unwrap_or align 1) fields) (members_from fields)

abbrev mutual
  -- The depth of an integer, an enumeration or a string is 1, of another class one more than its deepest part (own).
  pub depth_of : Shape → ℕ
  depth_of (struct align members) = 1 + depth_of_members members
  depth_of (variant tag options) = 1 + depth_of_members options
  depth_of (array count element) = 1 + depth_of element
  depth_of (sequence path element) = 1 + depth_of element
  depth_of _ = 1

  pub depth_of_members : Members → ℕ
  depth_of_members no_member = 0
  depth_of_members (member word shape more) = max (depth_of shape) (depth_of_members more)

abbrev mutual
  -- Each class is a node, an enumeration with its container one. A named class counts wherever it is used (own).
  pub nodes_of : Shape → ℕ
  nodes_of (struct align members) = 1 + nodes_of_members members
  nodes_of (variant tag options) = 1 + nodes_of_members options
  nodes_of (array count element) = 1 + nodes_of element
  nodes_of (sequence path element) = 1 + nodes_of element
  nodes_of _ = 1

  pub nodes_of_members : Members → ℕ
  nodes_of_members no_member = 0
  nodes_of_members (member word shape more) = nodes_of shape + nodes_of_members more

abbrev mutual
  -- a floating-point class is somewhere in it
  pub has_float : Shape → Bool
  has_float float = true
  has_float (struct align members) = has_float_member members
  has_float (variant tag options) = has_float_member options
  has_float (array count element) = has_float element
  has_float (sequence path element) = has_float element
  has_float _ = false

  pub has_float_member : Members → Bool
  has_float_member no_member = false
  has_float_member (member word shape more) = has_float shape || has_float_member more

-- `a[2][3]` is two arrays of three. (4.2.3; of a field's length 4.2.4.)
abbrev pub arrays : List Length → Shape → Shape
arrays [] shape = shape
arrays (Constant count ∷ lengths) shape = array count (arrays lengths shape)
arrays (Path path ∷ lengths) shape = sequence path (arrays lengths shape)

-- Each declarator is a member of the class, with the declarator's arrays.
abbrev pub declared : Option Shape → List Declarator → List Field
declared None ds = []
declared (Some shape) [] = []
declared (Some shape) (d ∷ ds) =
    record { name = d.name; shape = arrays d.lengths shape } ∷ declared (Some shape) ds

-- Of a tag where a variant is used and one where it is declared, the first counts (own).
abbrev pub with_tag : Option Words → Shape → Shape
with_tag (Some tag) (variant old options) = variant (Some tag) options
with_tag _ shape = shape

abbrev pub integer_in : Shape → Option DeclaredInteger
integer_in (integer i) = Some i
integer_in _ = None

-- Without a container an enumeration has the class named `int`. (4.1.8.)
abbrev pub container_name : Option Container → Option Name
container_name None = Some (name.Plain (codes "int" ∷ []))
container_name (Some (container.Named typename)) = Some (name.Plain typename.words)
container_name (Some (container.Integer settings)) = None

-- A class is what its declaration says, given what each name means at each place. One of an unknown name, of a faulty
-- integer, or of a container that is no integer has no shape, and a member of such a class is left out: it is a fault
-- already, and what depends on it is none (own). A string, an enumeration or a structure with a faulty attribute of its
-- own keeps its shape.
module _ (shape_named : Place → Name → Option Shape) where
  abbrev pub container_at : Place → Option Container → Option DeclaredInteger
  container_at at (Some (container.Integer settings)) = good_integer settings
  container_at at c =
      option_and_then integer_in (option_and_then (shape_named at) (container_name c))

  abbrev mutual
    pub shape_by : Place → Form → Option Shape
    shape_by at (Integer settings) = option_map integer (good_integer settings)
    shape_by at (Float settings) = Some float
    shape_by at (String settings) = Some string
    shape_by at (Struct name is align) = Some (structure align (fields_by at 0 is))
    shape_by at (Variant name tag is) = Some (variant tag (members_from (fields_by at 0 is)))
    shape_by at (Enum name c labels) =
        option_map (λ i. enum i (labels_of labels)) (container_at at c)
    shape_by at (Named name tag) = option_map (with_tag tag) (shape_named at name)

    -- The members that an item of a body declares: a declaration of names has none.
    pub fields_by_item : Place → Item → List Field
    fields_by_item at (Fields form declarators) = declared (shape_by at form) declarators
    fields_by_item at (Alias form words) = []
    fields_by_item at (Definition form declarators) = []
    fields_by_item at (Compound form) = []

    pub fields_by : Place → ℕ → Items → List Field
    fields_by block number no_item = []
    fields_by block number (some_items i is) =
        fields_by_item (number ∷ block) i ++ fields_by block (number + 1) is
