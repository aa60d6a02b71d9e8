-- Places of names in a list.
use Rattle.std.proofs.Common.{◌≡◌, ℕ, ◌+◌, ◌<◌, Bool, true, false, cond, ◌||◌, List, [], ◌∷◌, ◌++◌, length, take, get_or, Some, refl, sym, ap, ◌∙◌, is_some}
use Rattle.std.specs.List.{position_from, list_any}
use Rattle.std.proofs.lemmas.List.{take_more}
use Rattle.std.proofs.lemmas.List.Folds.{list_any-append}
use Rattle.ctf_class.specs.SameNames.{has_twins}

-- what was found, is an element that passes
pub is_some-position_from : {X : Type 0} (p : X → Bool) (n : ℕ) (xs : List X) → is_some (position_from p n xs) ≡ list_any p xs
is_some-position_from p n [] = refl
is_some-position_from p n (x ∷ xs) = elim (p x) as (λ b. is_some (cond b (Some n) (position_from p (n + 1) xs)) ≡ (b || list_any p xs)) [ true ↦ refl | false ↦ is_some-position_from p (n + 1) xs ]

-- one element more
swapped : (a b c d : Bool) → ((a || (b || false)) || (c || d)) ≡ ((a || c) || (b || d))
swapped true b c d = refl
swapped false true true d = refl
swapped false true false d = refl
swapped false false c d = refl

has_twins-push : {X : Type 0} (same : X → X → Bool) (xs : List X) (y : X) → has_twins same (xs ++ y ∷ []) ≡ (has_twins same xs || list_any (λ x. same x y) xs)
has_twins-push same [] y = refl
has_twins-push same (x ∷ xs) y =
    ap (λ b. b || has_twins same (xs ++ y ∷ [])) (list_any-append (same x) xs (y ∷ []))
    ∙ (ap (λ b. (list_any (same x) xs || (same x y || false)) || b) (has_twins-push same xs y)
    ∙ swapped (list_any (same x) xs) (same x y) (has_twins same xs) (list_any (λ z. same z y) xs))

pub has_twins-more : {X : Type 0} (same : X → X → Bool) (xs : List X) (i : ℕ) (x : X) → i < length xs → x ≡ get_or xs i x → has_twins same (take (i + 1) xs) ≡ (has_twins same (take i xs) || list_any (λ y. same y x) (take i xs))
has_twins-more same xs i x within at =
    let taken = take_more xs i x within in
    let pushed = has_twins-push same (take i xs) (get_or xs i x) in
    let here = ap (λ y. has_twins same (take i xs) || list_any (λ z. same z y) (take i xs)) (sym at) in
    ap (has_twins same) taken ∙ (pushed ∙ here)

-- what is added to a fact that holds, and nothing that is added
pub or_found : (b c : Bool) → c ≡ true → (b || c) ≡ true
or_found true c e = refl
or_found false c e = e

pub or_none : (b c : Bool) → c ≡ false → (b || c) ≡ b
or_none true c e = refl
or_none false c e = e
