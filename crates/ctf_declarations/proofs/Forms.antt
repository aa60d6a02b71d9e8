-- The code's types, level by level.
use Rattle.std.proofs.Common.{◌≡◌, List, [], Option, Some, None, Bor, refl, rules, ap, ◌∙◌}
use Rattle.std.specs.Option.{option_or}
use Rattle.tsdl_tree.specs.declared.tree.Compound.{Compound}
use Rattle.tsdl_tree.specs.declared.tree.Declarator.{Declarator}
use Rattle.tsdl_tree.specs.declared.tree.Item as item
use Rattle.tsdl_tree.specs.declared.tree.Item.{Item}
use Rattle.tsdl_tree.specs.declared.tree.Specifier as specifier
use Rattle.tsdl_tree.specs.declared.tree.Specifier.{Specifier}
use Rattle.tsdl_tree.specs.declared.tree.TypeDeclaration.{TypeDeclaration, TypeDeclaration-F}
use Rattle.tsdl_tree.specs.declared.tree.Compound.TheFolds.{fold_out-TypeDeclaration}
use Rattle.ctf_meaning.specs.Name.{Word, Name}
use Rattle.ctf_meaning.specs.Reading.{Body, form_of, item_of, compound_by, item_by, form_by, type_by}
use Rattle.ctf_meaning.specs.Shapes.{Shape}
use Rattle.ctf_meaning.specs.Written as written
use Rattle.ctf_meaning_steps.specs.Seen.{within, nothing_seen}
use Rattle.ctf_meaning_steps.specs.Classes.{fields_told}
use Rattle.ctf_declarations.specs.Given.{body_form, item_form}
use Rattle.ctf_declarations.specs.Views.{names_in, visible}
use Rattle.ctf_declarations.specs.declared.visible.BlockNames.{BlockNames}
use Rattle.ctf_declarations.specs.declared.visible.Visible as code
use Rattle.ctf_declarations.specs.declared.visible.Visible.{Visible}

pub form-Compound : (word : Option Word) (c : Compound) → form_of (specifier.Compound word c) ≡ body_form c word
form-Compound word c = search (rules, specifier.the_lemmas)

pub item-Types : (d : TypeDeclaration) → item_form (item.Types d) ≡ item_of d
item-Types d = search (rules, item.the_lemmas)

pub item-Fields : (s : Specifier) (ds : List Declarator) → item_form (item.Fields s ds) ≡ written.Fields (form_of s) ds
item-Fields s ds = search (rules, item.the_lemmas)

inside_at : (names : Bor BlockNames) (outer : Bor Visible) (name : Name) → visible (code.Inside names outer) name ≡ option_or (names_in names.now name) (visible outer.now name)
inside_at names outer name = search (rules, code.the_lemmas)

pub inside_is : (names : Bor BlockNames) (outer : Bor Visible) → visible (code.Inside names outer) ≡ within (names_in names.now) (visible outer.now)
inside_is names outer = λ j name. inside_at names outer name j

nothing_at : (name : Name) → visible code.Nothing name ≡ None
nothing_at name = search (rules, code.the_lemmas)

pub nothing_is : visible code.Nothing ≡ nothing_seen
nothing_is = λ j name. nothing_at name j

or_none : {X : Type 0} (o : Option X) → option_or o None ≡ o
or_none None = refl
or_none (Some x) = refl

-- the names of the text alone
pub alone_is : (names : Bor BlockNames) (outer : Bor Visible) → outer.now ≡ code.Nothing → visible (code.Inside names outer) ≡ names_in names.now
alone_is names outer e = inside_is names outer ∙ ap (λ v. within (names_in names.now) (visible v)) e ∙ (λ j name. (ap (option_or (names_in names.now name)) (nothing_at name) ∙ or_none (names_in names.now name)) j)

none_by : (o : TypeDeclaration-F Body written.Item written.Form written.Item) (s : Shape) → fields_told (type_by o) s ≡ []
none_by (TypeDeclaration-F.Alias form typename) s = refl
none_by (TypeDeclaration-F.Definition form declarators) s = refl
none_by (TypeDeclaration-F.«TypeDeclaration::Compound» word compound) s = refl

-- a declaration of names has no member
pub no_fields : (d : TypeDeclaration) (s : Shape) → fields_told (item_of d) s ≡ []
no_fields d s = ap (λ i. fields_told i s) (fold_out-TypeDeclaration Body written.Item written.Form written.Item compound_by item_by form_by type_by d) ∙ none_by _ s
