-- Turns as single numbers: they are in the order of these.
use Rattle.std.proofs.Common.{◌≡◌, ℕ, zero, suc, ◌+◌, ◌*◌, ◌/◌, ◌%◌, ◌^◌, ◌<◌, inl, inr, ℤ, pos, ◌-ℤ◌, ◌<ℤ◌, refl, subst, arith}
use Rattle.std.proofs.lemmas.Int.{ints}
use Rattle.std.specs.Ordering.{int_cmp, nat_cmp, ordering_then, MatchOrdering}
use Rattle.std.specs.Option.{option_cmp}
use Rattle.std.specs.Cmp.{nat_cmp_is, ranks, int_ranks}
use Rattle.std.specs.declared.cmp.Ordering.{Ordering}
use Rattle.std.specs.declared.cmp.Ordering.TheVariants.{Less, Equal, Greater}
use Rattle.ctf_merge.specs.Keys.{time_if, time_at, turn_of_key, IsTimed}
use Rattle.ctf_merge.specs.Turns.{turn_cmp}

abbrev Ranked : Ordering → ℕ → ℕ → Type 0
Ranked o x y = MatchOrdering o (x < y) (x ≡ y) (y < x)

abbrev time_of_bits : ℕ → ℤ
time_of_bits n = pos n -ℤ pos (2 ^ 63)

times_ranked : (h b k c : ℕ) → (h ≡ 0 → b ≡ 0) → (k ≡ 0 → c ≡ 0) → h < 2 → k < 2 → Ranked (option_cmp int_cmp (time_if h b) (time_if k c)) (2 * b + h) (2 * c + k)
times_ranked zero b zero c first second l m = let x = first refl in let y = second refl in omega (arith, x, y)
times_ranked zero b (suc k) c first second l m = let x = first refl in omega (arith, x)
times_ranked (suc h) b zero c first second l m = let y = second refl in omega (arith, y)
times_ranked (suc h) b (suc k) c first second l m = by_order (int_cmp (time_of_bits b) (time_of_bits c)) (int_ranks (time_of_bits b) (time_of_bits c))
  where
    by_order : (o : Ordering) → MatchOrdering o (time_of_bits b <ℤ time_of_bits c) (time_of_bits b ≡ time_of_bits c) (time_of_bits c <ℤ time_of_bits b) → Ranked o (2 * b + suc h) (2 * c + suc k)
    by_order Less e = omega (arith, ints, e, l, m)
    by_order Equal e = omega (arith, ints, e, l, m)
    by_order Greater e = omega (arith, ints, e, l, m)

no_time : (above : ℕ) → IsTimed above → above % 2 ≡ 0 → above / 2 ≡ 0
no_time above (inl e) even = omega (arith, e)
no_time above (inr e) even = absurd (omega (arith, e, even))

above_ranked : (x y : ℕ) → IsTimed x → IsTimed y → Ranked (option_cmp int_cmp (time_at x) (time_at y)) x y
above_ranked x y p q =
    let o = option_cmp int_cmp (time_at x) (time_at y) in
    let whole : 2 * (x / 2) + x % 2 ≡ x = omega arith in
    let other : 2 * (y / 2) + y % 2 ≡ y = omega arith in
    subst (λ (k : ℕ). Ranked o k y) whole
    (subst (λ (k : ℕ). Ranked o (2 * (x / 2) + x % 2) k) other (times_ranked (x % 2) (x / 2) (y % 2) (y / 2) (no_time x p) (no_time y q) (omega arith) (omega arith)))

-- by the upper part, and then by the lower one
parts_ranked : (x y : ℕ) (o p : Ordering) → Ranked o (x / (2 ^ 63)) (y / (2 ^ 63)) → Ranked p (x % (2 ^ 63)) (y % (2 ^ 63)) → Ranked (ordering_then o p) x y
parts_ranked x y Less p h l = omega (arith, h)
parts_ranked x y Equal Less h l = omega (arith, h, l)
parts_ranked x y Equal Equal h l = omega (arith, h, l)
parts_ranked x y Equal Greater h l = omega (arith, h, l)
parts_ranked x y Greater p h l = omega (arith, h)

-- turns are in the order of their numbers
pub keys_cmp : (x y : ℕ) → IsTimed (x / (2 ^ 63)) → IsTimed (y / (2 ^ 63)) → turn_cmp (turn_of_key x) (turn_of_key y) ≡ nat_cmp x y
keys_cmp x y p q =
    let time = option_cmp int_cmp (time_at (x / (2 ^ 63))) (time_at (y / (2 ^ 63))) in
    let number = nat_cmp (x % (2 ^ 63)) (y % (2 ^ 63)) in
    nat_cmp_is x y (ordering_then time number) (parts_ranked x y time number (above_ranked (x / (2 ^ 63)) (y / (2 ^ 63)) p q) (ranks (x % (2 ^ 63)) (y % (2 ^ 63))))
