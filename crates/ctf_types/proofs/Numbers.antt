-- Declarations one after another, with their numbers.
use Rattle.std.proofs.Common.{◌≡◌, ℕ, zero, suc, ◌+◌, ◌<◌, ◌≤◌, List, [], ◌∷◌, ◌++◌, map, drop, length, get_or, Option, Some, None, refl, sym, ap, ◌∙◌, arith, append_assoc}
use Rattle.std.specs.Prelude.{filter_map, slice_get, option_map}
use Rattle.std.specs.List.{enumerate_from, cons_option}
use Rattle.std.proofs.Math.Seq.{drop-cons}
use Rattle.std.proofs.lemmas.List.{drop-map}
use Rattle.std.proofs.lemmas.Option.{slice_get_read, slice_get-map}
use Rattle.tsdl_tree.specs.declared.tree.Declaration.{Declaration as TreeDeclaration}
use Rattle.ctf_meaning.specs.Written.{Declaration}
use Rattle.ctf_meaning.specs.Reading.{declaration_of}

-- the declarations from a number on
abbrev pub from : List TreeDeclaration → ℕ → List (ℕ × Declaration)
from ds i = enumerate_from i (drop i (map declaration_of ds))

here : {A : Type 0} (xs : List A) (i : ℕ) (x : A) → i < length xs → x ≡ get_or xs i x → drop i xs ≡ x ∷ drop (i + 1) xs
here xs i x h e =
    let one : suc i ≡ i + 1 = omega arith in drop-cons xs i x h ∙ (λ j. sym e j ∷ drop (one j) xs)

drop-all : {A : Type 0} (xs : List A) (k : ℕ) → length xs ≤ k → drop k xs ≡ []
drop-all [] zero l = refl
drop-all [] (suc k) l = refl
drop-all (x ∷ xs) zero l = absurd (omega arith)
drop-all (x ∷ xs) (suc k) l = drop-all xs k (omega arith)

pub from_next : (ds : List TreeDeclaration) (i : ℕ) (d : TreeDeclaration) → i < length ds → d ≡ get_or ds i d → from ds i ≡ (i, declaration_of d) ∷ from ds (i + 1)
from_next ds i d l e =
    ap (enumerate_from i) (drop-map declaration_of i ds ∙ ap (map declaration_of) (here ds i d l e))
    ∙ ap (λ xs. (i, declaration_of d) ∷ enumerate_from (i + 1) xs) (sym (drop-map declaration_of (i + 1) ds))

pub from_end : (ds : List TreeDeclaration) (i : ℕ) → length ds ≤ i → from ds i ≡ []
from_end ds i h = ap (enumerate_from i) (drop-map declaration_of i ds ∙ ap (map declaration_of) (drop-all ds i h))

-- the same without their numbers
abbrev pub rest : List TreeDeclaration → ℕ → List Declaration
rest ds i = drop i (map declaration_of ds)

pub rest_next : (ds : List TreeDeclaration) (i : ℕ) (d : TreeDeclaration) → i < length ds → d ≡ get_or ds i d → rest ds i ≡ declaration_of d ∷ rest ds (i + 1)
rest_next ds i d l e =
    drop-map declaration_of i ds ∙ ap (map declaration_of) (here ds i d l e)
    ∙ ap (λ xs. declaration_of d ∷ xs) (sym (drop-map declaration_of (i + 1) ds))

pub rest_end : (ds : List TreeDeclaration) (i : ℕ) → length ds ≤ i → rest ds i ≡ []
rest_end ds i h = drop-map declaration_of i ds ∙ ap (map declaration_of) (drop-all ds i h)

pub stands : (ds : List TreeDeclaration) (i : ℕ) (d : TreeDeclaration) → i < length ds → d ≡ get_or ds i d → slice_get (map declaration_of ds) i ≡ Some (declaration_of d)
stands ds i d l e = slice_get-map declaration_of ds i ∙ ap (option_map declaration_of) (slice_get_read ds (length ds) i d refl l e)

-- what a declaration gives is after what those before it gave
pub given_one : {A B : Type 0} (f : A → Option B) (xs : List B) (a : A) (b : B) (more : List A) → f a ≡ Some b → (xs ++ b ∷ []) ++ filter_map f more ≡ xs ++ filter_map f (a ∷ more)
given_one f xs a b more e = append_assoc xs (b ∷ []) (filter_map f more) ∙ ap (λ o. xs ++ cons_option o (filter_map f more)) (sym e)

pub given_none : {A B : Type 0} (f : A → Option B) (xs : List B) (a : A) (more : List A) → f a ≡ None → xs ++ filter_map f more ≡ xs ++ filter_map f (a ∷ more)
given_none f xs a more e = ap (λ o. xs ++ cons_option o (filter_map f more)) (sym e)
