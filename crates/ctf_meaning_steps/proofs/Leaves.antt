-- Classes without a body: what is reported of them is what is wrong with them where they are written, or their shape.
use Rattle.std.proofs.Common.{◌≡◌, inl, inr, if◌then◌else◌, List, [], ◌++◌, Some, None, Ok, is_none, refl, ap, sym, ◌∙◌, append-nil, option_and_then, Contains}
use Rattle.std.specs.Option.{option_map_or}
use Rattle.std.proofs.lemmas.List.Elements.{Contains-append_left, Contains-append_right, Contains-append_cases}
use Rattle.tsdl_tree.specs.declared.tree.Setting.{Setting}
use Rattle.ctf_meaning.specs.declared.fault.ResolveFault.{ResolveFault}
use Rattle.ctf_meaning.specs.declared.fault.ResolveFault.TheVariants.{UnknownType, Attribute}
use Rattle.ctf_meaning.specs.declared.integer.DeclaredInteger.{DeclaredInteger}
use Rattle.ctf_meaning.specs.Name.{Name}
use Rattle.ctf_meaning.specs.Parts.{Place}
use Rattle.ctf_meaning.specs.Settings.{when, minus_faults}
use Rattle.ctf_meaning.specs.Integers.{integer_faults, integer_of, good_integer, is_none_wrong}
use Rattle.ctf_meaning.specs.Shapes.{integer_in}
use Rattle.ctf_meaning.specs.Names.{Entry, meaning, shape_named}
use Rattle.ctf_meaning_steps.specs.Told.{◌>>=◌, unless, there_or}
use Rattle.ctf_meaning_steps.specs.Seen.{Seen}
use Rattle.ctf_meaning_steps.specs.Classes.{integer_told, named_told}
use Rattle.ctf_meaning_steps.proofs.Telling.{Tells, tells_then, tells_unless, tells_there, tells_same, tells_as, tells_by, append_none}
use Rattle.ctf_meaning.proofs.Lists.{append_left, append_right}
use Rattle.ctf_meaning_steps.proofs.Seeing.{Sees, none_same, shape_same}

-- two lists of faults in the other order
pub turned_none : (xs ys : List ResolveFault) → xs ++ ys ≡ [] → ys ++ xs ≡ []
turned_none xs ys h = append_none ys xs (append_right xs ys h) (append_left xs ys h)

pub turned : (xs ys : List ResolveFault) (f : ResolveFault) → Contains (xs ++ ys) f → Contains (ys ++ xs) f
turned xs ys f h =
    elim (Contains-append_cases xs ys f h) as (λ _. Contains (ys ++ xs) f) [
      | inl left ↦ Contains-append_right ys xs f left
      | inr right ↦ Contains-append_left ys xs f right
    ]

-- a value unless there are some faults or others
pub tells_two : {A : Type 0} (first second : List ResolveFault) (a : A) (Q : A → Type 0) → (second ≡ [] → Q a) → Tells (Unit {0}) (unless first (unless second (Ok a))) (second ++ first) Q
tells_two first second a Q h =
    tells_by (Unit {0}) (unless first (unless second (Ok a))) (first ++ second) (second ++ first) Q (turned_none first second) (turned first second)
    (tells_same (Unit {0}) (unless first (unless second (Ok a))) (first ++ (second ++ [])) (first ++ second) Q (ap (λ xs. first ++ xs) (append-nil second))
    (tells_unless (Unit {0}) first (unless second (Ok a)) (second ++ []) Q (λ e. tells_unless (Unit {0}) second (Ok a) [] Q (λ f. (refl, h f)))))

if_none_wrong : (faults : List ResolveFault) (i : DeclaredInteger) → faults ≡ [] → (if is_none_wrong faults then Some i else None) ≡ Some i
if_none_wrong faults i e = ap (λ fs. if is_none_wrong fs then Some i else None) e

pub integer_tells : (settings : List Setting) → Tells (Unit {0}) (integer_told settings) (integer_faults settings ++ minus_faults settings) (λ i. good_integer settings ≡ Some i)
integer_tells settings =
    tells_two (minus_faults settings) (integer_faults settings) (integer_of settings) (λ i. good_integer settings ≡ Some i) (λ e. if_none_wrong (integer_faults settings) (integer_of settings) e)

module _ (es : List Entry) (at : Place) (seen : Seen) (sees : Sees es at seen) where
  pub named_tells : (name : Name) → Tells (Unit {0}) (named_told seen name) (when (is_none (meaning es at name)) UnknownType) (λ shape. shape_named es at name ≡ Some shape)
  named_tells name =
      tells_as (Unit {0}) (there_or UnknownType (seen name)) (when (is_none (meaning es at name)) UnknownType) (λ shape. seen name ≡ Some shape) (λ shape. shape_named es at name ≡ Some shape)
      (λ shape e. shape_same (meaning es at name) (seen name) (sees name) ∙ e)
      (tells_same (Unit {0}) (there_or UnknownType (seen name)) (when (is_none (seen name)) UnknownType) (when (is_none (meaning es at name)) UnknownType) (λ shape. seen name ≡ Some shape)
      (ap (λ b. when b UnknownType) (sym (none_same (meaning es at name) (seen name) (sees name))))
      (tells_there (Unit {0}) UnknownType (seen name)))

  -- the integer that a name stands for
  pub named_integer : (name : Name) →
      Tells (Unit {0}) (named_told seen name >>= λ shape. there_or Attribute (integer_in shape))
      (when (is_none (meaning es at name)) UnknownType ++ option_map_or (λ shape. when (is_none (integer_in shape)) Attribute) (shape_named es at name) [])
      (λ i. option_and_then integer_in (shape_named es at name) ≡ Some i)
  named_integer name =
      tells_then (Unit {0}) (named_told seen name) (λ shape. there_or Attribute (integer_in shape)) (when (is_none (meaning es at name)) UnknownType)
      (option_map_or (λ shape. when (is_none (integer_in shape)) Attribute) (shape_named es at name) [])
      (λ shape. shape_named es at name ≡ Some shape) (λ i. option_and_then integer_in (shape_named es at name) ≡ Some i)
      (named_tells name)
      (λ shape e here.
      tells_same (Unit {0}) (there_or Attribute (integer_in shape)) (when (is_none (integer_in shape)) Attribute) (option_map_or (λ s. when (is_none (integer_in s)) Attribute) (shape_named es at name) []) _
      (ap (λ o. option_map_or (λ s. when (is_none (integer_in s)) Attribute) o []) (sym here))
      (tells_as (Unit {0}) (there_or Attribute (integer_in shape)) (when (is_none (integer_in shape)) Attribute) (λ i. integer_in shape ≡ Some i) (λ i. option_and_then integer_in (shape_named es at name) ≡ Some i)
      (λ i there. ap (option_and_then integer_in) here ∙ there)
      (tells_there (Unit {0}) Attribute (integer_in shape))))
