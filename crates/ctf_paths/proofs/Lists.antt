-- The first that fits, one by one.
use Rattle.std.proofs.Common.{◌≡◌, ℕ, zero, suc, ◌+◌, ◌<◌, ◌≤◌, Bool, true, false, List, [], ◌∷◌, ◌++◌, length, take, drop, get_or, Option, Some, None, inl, inr, refl, ap, sym, ◌∙◌, arith}
use Rattle.std.specs.Prelude.{filter_map, find, nat_lt, if◌then◌else◌, option_and_then, slice_get}
use Rattle.std.specs.List.{cons_option, enumerate_from}
use Rattle.std.specs.Option.{option_or}
use Rattle.std.proofs.lemmas.Bool.{lt-ltb, le-ltb}
use Rattle.std.proofs.lemmas.List.{take_more}
use Rattle.std.proofs.lemmas.Option.{slice_get_within, get_or_from_slice_get, slice_get_cases}
use Rattle.std.proofs.lemmas.List.Elements.{filter_map-append}
use Rattle.std.proofs.lemmas.List.Folds.{find-append}
use Rattle.std.proofs.Math.Seq.{drop-cons}
use Rattle.ctf_meaning.specs.There.{first}

pub drop_here : {A : Type 0} → (xs : List A) (i : ℕ) (d : A) → i < length xs → drop i xs ≡ get_or xs i d ∷ drop (i + 1) xs
drop_here xs i d h = let e : suc i ≡ i + 1 = omega arith in drop-cons xs i d h ∙ ap (λ k. get_or xs i d ∷ drop k xs) e

first_of : {B : Type 0} (o : Option B) (ys : List B) → first (cons_option o ys) ≡ option_or o (first ys)
first_of None ys = refl
first_of (Some b) ys = refl

-- the first of a list is that of its head, or else that of the rest
pub first_each : {A B : Type 0} (f : A → Option B) (a : A) (xs : List A) → first (filter_map f (a ∷ xs)) ≡ option_or (f a) (first (filter_map f xs))
first_each f a xs = first_of (f a) (filter_map f xs)

-- at a place of a list
pub first_here : {A B : Type 0} (f : A → Option B) (xs : List A) (i : ℕ) (d : A) → i < length xs → first (filter_map f (drop i xs)) ≡ option_or (f (get_or xs i d)) (first (filter_map f (drop (i + 1) xs)))
first_here f xs i d h = ap (λ ys. first (filter_map f ys)) (drop_here xs i d h) ∙ first_each f (get_or xs i d) (drop (i + 1) xs)

-- past one that gives nothing
pub first_past : {A B : Type 0} (f : A → Option B) (xs : List A) (i : ℕ) (d : A) → i < length xs → None ≡ f (get_or xs i d) → first (filter_map f (drop (i + 1) xs)) ≡ first (filter_map f (drop i xs))
first_past f xs i d h n =
    ap (λ o. option_or o (first (filter_map f (drop (i + 1) xs)))) n ∙ sym (first_here f xs i d h)

pub at_place : {A : Type 0} → (xs : List A) (i : ℕ) (x : A) → i < length xs → x ≡ get_or xs i x → drop i xs ≡ x ∷ drop (i + 1) xs
at_place xs i x h e = drop_here xs i x h ∙ ap (λ y. y ∷ drop (i + 1) xs) (sym e)

-- what is found at a bound or after it is not among the first
none_below : {A : Type 0} (p : ℕ × A → Bool) (k n : ℕ) (xs : List A) → k ≤ n → option_and_then (λ q. if nat_lt q.0 k then Some q else None) (find p (enumerate_from n xs)) ≡ None
none_below p k n [] h = refl
none_below p k n (x ∷ xs) h =
    elim (p (n, x)) as (λ v. option_and_then (λ q. if nat_lt q.0 k then Some q else None) (if v then Some (n, x) else find p (enumerate_from (n + 1) xs)) ≡ None) [
      | true ↦ ap (λ b. if b then Some (n, x) else None) (le-ltb n k h)
      | false ↦ none_below p k (n + 1) xs (omega arith)
    ]

-- what is found among the first is what is found, where that is one of them
pub find_taken : {A : Type 0} (p : ℕ × A → Bool) (k n : ℕ) (xs : List A) → find p (enumerate_from k (take n xs)) ≡ option_and_then (λ q. if nat_lt q.0 (k + n) then Some q else None) (find p (enumerate_from k xs))
find_taken p k zero xs = let e : k + 0 ≤ k = omega arith in sym (none_below p (k + 0) k xs e)
find_taken p k (suc n) [] = refl
find_taken p k (suc n) (x ∷ xs) =
    let more : k + 1 + n ≡ k + suc n = omega arith in
    let here : k < k + suc n = omega arith in
    elim (p (k, x)) as (λ v. (if v then Some (k, x) else find p (enumerate_from (k + 1) (take n xs))) ≡ option_and_then (λ q. if nat_lt q.0 (k + suc n) then Some q else None) (if v then Some (k, x) else find p (enumerate_from (k + 1) xs))) [
      | true ↦ ap (λ b. if b then Some (k, x) else None) (sym (lt-ltb k (k + suc n) here))
      | false ↦ find_taken p (k + 1) n xs ∙ ap (λ m. option_and_then (λ q. if nat_lt q.0 m then Some q else None) (find p (enumerate_from (k + 1) xs))) more
    ]

first-append : {A : Type 0} (xs ys : List A) → first (xs ++ ys) ≡ option_or (first xs) (first ys)
first-append [] ys = refl
first-append (x ∷ xs) ys = refl

-- the first of two lists is in the one or in the other
pub find_left : {A : Type 0} (p : A → Bool) (xs ys : List A) (a : A) → Some a ≡ find p xs → Some a ≡ find p (xs ++ ys)
find_left p xs ys a e = ap (λ o. option_or o (find p ys)) e ∙ sym (find-append p xs ys)

pub find_right : {A : Type 0} (p : A → Bool) (xs ys : List A) → None ≡ find p xs → find p ys ≡ find p (xs ++ ys)
find_right p xs ys e = ap (λ o. option_or o (find p ys)) e ∙ sym (find-append p xs ys)

first-both : {A B : Type 0} (f : A → Option B) (xs ys : List A) → first (filter_map f (xs ++ ys)) ≡ option_or (first (filter_map f xs)) (first (filter_map f ys))
first-both f xs ys = ap first (filter_map-append f xs ys) ∙ first-append (filter_map f xs) (filter_map f ys)

pub first_left : {A B : Type 0} (f : A → Option B) (xs ys : List A) (b : B) → Some b ≡ first (filter_map f xs) → Some b ≡ first (filter_map f (xs ++ ys))
first_left f xs ys b e = ap (λ o. option_or o (first (filter_map f ys))) e ∙ sym (first-both f xs ys)

pub first_right : {A B : Type 0} (f : A → Option B) (xs ys : List A) → None ≡ first (filter_map f xs) → first (filter_map f ys) ≡ first (filter_map f (xs ++ ys))
first_right f xs ys e = ap (λ o. option_or o (first (filter_map f ys))) e ∙ sym (first-both f xs ys)

-- a list before and after a place
pub drop_get : {A : Type 0} → (xs : List A) (i : ℕ) (x : A) → slice_get xs i ≡ Some x → drop i xs ≡ x ∷ drop (i + 1) xs
drop_get xs i x e = at_place xs i x (slice_get_within xs i x e) (sym (get_or_from_slice_get xs i x x e))

pub take_get : {A : Type 0} → (xs : List A) (i : ℕ) (x : A) → slice_get xs i ≡ Some x → take (i + 1) xs ≡ take i xs ++ x ∷ []
take_get xs i x e = take_more xs i x (slice_get_within xs i x e) ∙ ap (λ y. take i xs ++ y ∷ []) (get_or_from_slice_get xs i x x e)

-- within a list there is an element
pub there : {A : Type 0} → (xs : List A) (i : ℕ) → i < length xs → (x : A) × (slice_get xs i ≡ Some x)
there xs i h = elim (slice_get_cases xs i).1 [
  | inl found ↦ (found.0, found.2)
  | inr past ↦ absurd (omega (arith, past.0))
]
