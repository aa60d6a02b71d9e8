-- The plain data of a syntax tree. These few functions are all that knows the tree's recursive types.
use Rattle.std.specs.Prelude.{List, map, Option, Some, None}
use Rattle.tsdl_tree.specs.declared.tree.Tree.{Tree}
use Rattle.tsdl_tree.specs.declared.tree.Declaration.{Declaration as TreeDeclaration}
use Rattle.tsdl_tree.specs.declared.tree.Declaration.TheVariants as declaration
use Rattle.tsdl_tree.specs.declared.tree.BlockEntry.{BlockEntry as TreeEntry}
use Rattle.tsdl_tree.specs.declared.tree.BlockEntry.TheVariants as entry
use Rattle.tsdl_tree.specs.declared.tree.Compound.{Compound-F}
use Rattle.tsdl_tree.specs.declared.tree.Compound.TheFolds.{fold-Specifier, fold-TypeDeclaration}
use Rattle.tsdl_tree.specs.declared.tree.Item.{Item-F}
use Rattle.tsdl_tree.specs.declared.tree.Specifier.{Specifier, Specifier-F}
use Rattle.tsdl_tree.specs.declared.tree.TypeDeclaration.{TypeDeclaration, TypeDeclaration-F}
use Rattle.tsdl_tree.specs.declared.tree.Reference.{Reference}
use Rattle.tsdl_tree.specs.declared.tree.Reference.TheVariants as reference
use Rattle.ctf_meaning.specs.Name.{Word}
use Rattle.ctf_meaning.specs.Name as name
use Rattle.ctf_meaning.specs.Written.{Form, Item, BlockEntry, Declaration, Integer, Float, String, Struct, Variant, Enum, Named, Fields, Alias, Definition, Compound, Assigned, Classed, Declared, Block, Table, Names, items_from}

-- a compound, given the name that is beside its body
abbrev pub Body : Type 0
Body = Option Word → Form

abbrev pub named : Reference → Form
named (reference.Plain typename) = Named (name.Plain typename.words) None
named (reference.Struct word) = Named (name.Struct word) None
named (reference.Variant word tag) = Named (name.Variant word) tag
named (reference.Enum word) = Named (name.Enum word) None

abbrev pub compound_by : Compound-F Body Item Form Item → Body
compound_by (Compound-F.Struct items align) = λ word. Struct word (items_from items) align
compound_by (Compound-F.Variant tag items) = λ word. Variant word tag (items_from items)
compound_by (Compound-F.Enum container labels) = λ word. Enum word container labels

abbrev pub item_by : Item-F Body Item Form Item → Item
item_by (Item-F.Fields form declarators) = Fields form declarators
item_by (Item-F.Types item) = item

abbrev pub form_by : Specifier-F Body Item Form Item → Form
form_by (Specifier-F.Integer settings) = Integer settings
form_by (Specifier-F.FloatingPoint settings) = Float settings
form_by (Specifier-F.String settings) = String settings
form_by (Specifier-F.«Specifier::Compound» word compound) = compound word
form_by (Specifier-F.Named r) = named r

abbrev pub type_by : TypeDeclaration-F Body Item Form Item → Item
type_by (TypeDeclaration-F.Alias form typename) = Alias form typename.words
type_by (TypeDeclaration-F.Definition form declarators) = Definition form declarators
type_by (TypeDeclaration-F.«TypeDeclaration::Compound» word compound) =
    Compound (compound (Some word))

abbrev pub form_of : Specifier → Form
form_of = fold-Specifier Body Item Form Item compound_by item_by form_by type_by

abbrev pub item_of : TypeDeclaration → Item
item_of = fold-TypeDeclaration Body Item Form Item compound_by item_by form_by type_by

abbrev pub entry_of : TreeEntry → BlockEntry
entry_of (entry.Setting setting) = Assigned setting
entry_of (entry.Class path specifier) = Classed path (form_of specifier)
entry_of (entry.Types t) = Declared (item_of t)

abbrev pub declaration_of : TreeDeclaration → Declaration
declaration_of (declaration.Block kind entries) = Block kind (map entry_of entries)
declaration_of (declaration.Table kind settings) = Table kind settings
declaration_of (declaration.Types t) = Names (item_of t)

-- the text of a syntax tree
abbrev pub written : Tree → List Declaration
written tree = map declaration_of tree.declarations
