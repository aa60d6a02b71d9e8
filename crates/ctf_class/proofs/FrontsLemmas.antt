-- What holds of all elements from an index on.
use Rattle.std.proofs.Common.{◌≡◌, ℕ, suc, ◌-◌, ◌<◌, ◌≤◌, List, ◌∷◌, length, drop, get_or, ap, subst, sym, ◌∙◌, arith}
use Rattle.std.proofs.Math.Seq.{drop-cons}
use Rattle.std.proofs.lemmas.List.Elements.{All-cons}
use Rattle.std.specs.List.{All}

-- this holds of an element and of all after it
pub all_from : {X : Type 0} (P : X → Type 0) (xs : List X) (n : ℕ) (x : X) → 0 < n → n ≤ length xs → get_or xs (n - 1) x ≡ x → P x → All P (drop n xs) → All P (drop (n - 1) xs)
all_from P xs n x some within is holds later =
    let next : suc (n - 1) ≡ n = omega (arith, some) in
    let here = drop-cons xs (n - 1) x (omega (arith, some, within)) ∙ ap (λ k. get_or xs (n - 1) x ∷ drop k xs) next ∙ ap (λ y. y ∷ drop n xs) is in
    subst (All P) (sym here) (All-cons P x (drop n xs) holds later)
