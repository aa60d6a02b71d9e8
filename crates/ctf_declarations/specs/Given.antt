-- The names that parts of the syntax tree give to classes.
use Rattle.std.specs.Prelude.{List, [], ◌∷◌, Option, Some, None}
use Rattle.tsdl_tree.specs.declared.tree.Declarator.{Declarator}
use Rattle.tsdl_tree.specs.declared.tree.Compound.{Compound}
use Rattle.tsdl_tree.specs.declared.tree.Compound.TheFolds.{fold-Compound, fold-Item}
use Rattle.tsdl_tree.specs.declared.tree.Item.{Item as TreeItem}
use Rattle.ctf_meaning.specs.Name.{Name, Plain}
use Rattle.ctf_meaning.specs.Written.{Form, Item}
use Rattle.ctf_meaning.specs.Parts.{Given, plainly}
use Rattle.ctf_meaning.specs.Reading.{Body, compound_by, item_by, form_by, type_by}

-- a compound, given the name that is beside it
abbrev pub body_form : Compound → Body
body_form = fold-Compound Body Item Form Item compound_by item_by form_by type_by

-- an item of a body
abbrev pub item_form : TreeItem → Item
item_form = fold-Item Body Item Form Item compound_by item_by form_by type_by

-- a name that is given, or none
abbrev pub given_by : Option Name → List Given
given_by None = []
given_by (Some name) = plainly name ∷ []

-- the name of a declarator, for the class with its arrays
abbrev pub by_declarator : Declarator → Given
by_declarator d = record { name = Plain (d.name ∷ []); lengths = d.lengths }
