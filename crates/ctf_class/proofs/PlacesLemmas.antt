-- Lemmas on places in lists.
use Rattle.std.proofs.Common.{◌≡◌, ℕ, zero, suc, ◌+◌, ◌<◌, ◌≤◌, Bool, true, false, cond, eqb, nat_cmp, ltb, List, [], ◌∷◌, ◌++◌, length, map, take, get_or, Option, Some, None, refl, sym, ap, subst, ◌∙◌, is_some, ⊎_elim, arith}
use Rattle.std.specs.List.{position_from, find, slice_get, range_with_len, Contains}
use Rattle.std.specs.List.Sorted.{IsPermutation}
use Rattle.std.specs.Option.{option_or}
use Rattle.std.specs.BTreeMap.{is_at}
use Rattle.std.proofs.lemmas.Bool.{cases_eq, false≢true}
use Rattle.std.proofs.lemmas.Bool.Decides.{nat_tests}
use Rattle.std.proofs.lemmas.List.{take_more, map-append, length-take-le, get_or_default}
use Rattle.std.proofs.lemmas.List.Folds.{find_at}
use Rattle.std.proofs.lemmas.List.Sorted.{Contains-permutation, length_permutation}
use Rattle.std.proofs.lemmas.Iterator.Adapters.{position_from-zero}
use Rattle.std.proofs.lemmas.Option.{slice_get_past}
use Rattle.ctf_class.specs.Ranks.{HasRanks}

-- one number more
pub range_with_len-push : (first count : ℕ) → range_with_len first (count + 1) ≡ range_with_len first count ++ (first + count) ∷ []
range_with_len-push first zero = let none : first ≡ first + 0 = omega arith in ap (λ n. n ∷ []) none
range_with_len-push first (suc count) =
    let more : suc count + 1 ≡ suc (count + 1) = omega arith in
    let last : first + 1 + count ≡ first + suc count = omega arith in
    ap (range_with_len first) more ∙ (ap (λ ns. first ∷ ns) (range_with_len-push (first + 1) count) ∙ ap (λ n. first ∷ (range_with_len (first + 1) count ++ n ∷ [])) last)

-- counted items, and one more
pub counted-more : {T : Type 0} (id_of : T → ℕ) (items : List T) (i : ℕ) (item : T) → i < length items → item ≡ get_or items i item → id_of item ≡ i → map id_of (take i items) ≡ range_with_len 0 i → map id_of (take (i + 1) items) ≡ range_with_len 0 (i + 1)
counted-more id_of items i item within at is before =
    let taken = take_more items i item within in
    let mapped = map-append id_of (take i items) (get_or items i item ∷ []) in
    let last = range_with_len-push 0 i in
    let number : 0 + i ≡ i = omega arith in
    cc

-- of counted items the one of a number is at the number
pub position_from-counted : {T : Type 0} (id_of : T → ℕ) (items : List T) (first id : ℕ) → map id_of items ≡ range_with_len first (length items) → first ≤ id → cond (ltb id (first + length items)) (Some id) None ≡ position_from (λ item. eqb (id_of item) id) first items
position_from-counted id_of [] first id counted above = grind (arith, nat_tests)
position_from-counted id_of (item ∷ items) first id counted above =
    let here : id_of item ≡ first = cc in
    let there : map id_of items ≡ range_with_len (first + 1) (length items) = cc in
    ⊎_elim
    (λ same. grind (arith, nat_tests))
    (λ apart.
    let rest = position_from-counted id_of items (first + 1) id there (omega arith) in
    grind (arith, nat_tests))
    (cases_eq first id)

-- one item more
position_from-push : {T : Type 0} (p : T → Bool) (first : ℕ) (items : List T) (item : T) → position_from p first (items ++ item ∷ []) ≡ option_or (position_from p first items) (cond (p item) (Some (first + length items)) None)
position_from-push p first [] item =
    let none : first ≡ first + 0 = omega arith in
    ap (λ n. cond (p item) (Some n) None) none
position_from-push p first (other ∷ items) item =
    let more : first + 1 + length items ≡ first + suc (length items) = omega arith in
    let rest = position_from-push p (first + 1) items item ∙ ap (λ n. option_or (position_from p (first + 1) items) (cond (p item) (Some n) None)) more in
    elim (p other) as (λ b. cond b (Some first) (position_from p (first + 1) (items ++ item ∷ [])) ≡ option_or (cond b (Some first) (position_from p (first + 1) items)) (cond (p item) (Some (first + suc (length items))) None)) [ true ↦ refl | false ↦ rest ]

pub position_from-more : {T : Type 0} (p : T → Bool) (items : List T) (i : ℕ) (item : T) → i < length items → item ≡ get_or items i item → position_from p 0 (take (i + 1) items) ≡ option_or (position_from p 0 (take i items)) (cond (p item) (Some i) None)
position_from-more p items i item within at =
    let taken = take_more items i item within in
    let pushed = position_from-push p 0 (take i items) (get_or items i item) in
    let count : 0 + length (take i items) ≡ i = omega (arith, length-take-le i items (omega arith)) in
    cc

-- a number that was found before stays where it is
pub found-kept : (found : Option ℕ) (same : Bool) (i : ℕ) → (same ≡ true → is_some found ≡ true) → option_or found (cond same (Some i) None) ≡ found
found-kept None true i known = absurd (false≢true (known refl))
found-kept None false i known = refl
found-kept (Some place) same i known = refl

-- a number that was not found before is found now
pub found-new : (found : Option ℕ) (same : Bool) (i : ℕ) → (same ≡ true → is_some found ≡ false) → option_or found (cond same (Some i) None) ≡ cond same (Some i) found
found-new None true i known = refl
found-new None false i known = refl
found-new (Some place) true i known = absurd (false≢true (sym (known refl)))
found-new (Some place) false i known = refl

-- numbers that are tested equal are equal
pub same_from_eqb : (a b : ℕ) → eqb a b ≡ true → a ≡ b
same_from_eqb a b same = grind (arith, nat_tests)

-- a map of numbers finds by equal numbers
pub is_at-nat_cmp : (key id : ℕ) → is_at (nat_cmp key) id ≡ eqb key id
is_at-nat_cmp key id = ⊎_elim (λ same. grind (arith, nat_tests)) (λ apart. grind (arith, nat_tests)) (cases_eq key id)

-- where an item was found
pub find-at_place : {T : Type 0} (p : T → Bool) (items : List T) (place : ℕ) → position_from p 0 items ≡ Some place → find p items ≡ slice_get items place
find-at_place p items place found = let at = find_at p items in let from = position_from-zero p items in grind (arith, nat_tests)

-- where none was found
pub find-nowhere : {T : Type 0} (p : T → Bool) (items : List T) → position_from p 0 items ≡ None → find p items ≡ None
find-nowhere p items nowhere = let at = find_at p items in let from = position_from-zero p items in grind (arith, nat_tests, slice_get_past)

-- counted items are found at their numbers
pub counted-firsts : {T : Type 0} (id_of : T → ℕ) (items : List T) (id : ℕ) → map id_of items ≡ range_with_len 0 (length items) → cond (ltb id (length items)) (Some id) None ≡ position_from (λ item. eqb (id_of item) id) 0 items
counted-firsts id_of items id counted =
    let none : length items ≡ 0 + length items = omega arith in
    ap (λ n. cond (ltb id n) (Some id) None) none ∙ position_from-counted id_of items 0 id counted (omega arith)

-- each place has a rank in the places as they are, and in another order
pub ranks-same : {X : Type 0} (items : List X) → HasRanks items []
ranks-same items = record { rank = λ place within. (place, within, refl) }

pub range-length : (first count : ℕ) → length (range_with_len first count) ≡ count
range-length first zero = refl
range-length first (suc count) = ap suc (range-length (first + 1) count)

pub range-at : (first count i d : ℕ) → i < count → get_or (range_with_len first count) i d ≡ first + i
range-at first zero i d less = absurd (omega arith)
range-at first (suc count) zero d less = omega arith
range-at first (suc count) (suc i) d less = range-at (first + 1) count i d (omega arith) ∙ omega arith

pub ranks-sorted : {X : Type 0} (items : List X) (order : List ℕ) → IsPermutation (range_with_len 0 (length items)) order → HasRanks items order
ranks-sorted items order moved =
    let n = length items in
    let places = range_with_len 0 n in
    let size : length order ≡ n = length_permutation places order moved ∙ range-length 0 n in
    record {
      rank = λ place within.
          let at : get_or places place place ≡ place = range-at 0 n place place within ∙ omega arith in
          let there : Contains places place = (place, subst (λ k. place < k) (sym (range-length 0 n)) within, at) in
          let found = Contains-permutation places order place moved there in
          (found.0, subst (λ k. found.0 < k) size found.1, get_or_default order found.0 found.0 place found.1 ∙ found.2);
    }
