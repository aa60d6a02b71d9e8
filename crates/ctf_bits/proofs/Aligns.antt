-- The least multiple that is not below a place.
use Rattle.std.proofs.Common.{◌≡◌, ℕ, ◌+◌, ◌-◌, ◌*◌, ◌/◌, ◌%◌, ◌<◌, ◌≤◌, ap, sym, ◌∙◌, arith, inl, inr}
use Rattle.std.specs.Int.{next_multiple_of}
use Rattle.std.proofs.Math.Nat.{mul-le-mul_right, mod_self, mod-eq_of_lt, sub-zero, mul-mod_left}
use Rattle.std.proofs.lemmas.Nat.{div-add-mod', div-mul-add, mod_below}
use Rattle.std.proofs.lemmas.Bool.{cases_lt, cases_eq}
use Rattle.ctf_bits.specs.Align.{IsLeastMultiple}

-- a multiple less than a above p is the least
pub IsLeastMultiple-near : (p a x : ℕ) → x % a ≡ 0 → p ≤ x → x < p + a → IsLeastMultiple p a x
IsLeastMultiple-near p a x multiple not_below near = record {
  multiple = multiple;
  not_below = not_below;
  least = λ m is reaches. least_of m is reaches;
}
  where
    least_of : (m : ℕ) → m % a ≡ 0 → p ≤ m → x ≤ m
    least_of m is reaches =
        let x_is = div-add-mod' x a in
        let m_is = div-add-mod' m a in
        elim (cases_lt (m / a) (x / a)) [
          | inl below ↦ omega (arith, mul-le-mul_right {m = m / a + 1} {n = x / a} a (omega arith))
          | inr above ↦ omega (arith, mul-le-mul_right {m = x / a} {n = m / a} a above)
        ]

-- rounding up by a division
pub rounded : (p a : ℕ) → 0 < a → (p + (a - 1)) / a * a ≡ next_multiple_of p a
rounded p a some = elim (cases_eq (p % a) 0) [ inl none ↦ even none | inr some_left ↦ uneven some_left ]
  where
    even : p % a ≡ 0 → (p + (a - 1)) / a * a ≡ next_multiple_of p a
    even none =
        let whole : p + (a - 1) ≡ p / a * a + (a - 1) = omega (arith, div-add-mod' p a) in
        let quotient : (p + (a - 1)) / a ≡ p / a = ap (λ (k : ℕ). k / a) whole ∙ div-mul-add (p / a) a (a - 1) (omega arith) in
        let nothing : (a - p % a) % a ≡ 0 = ap (λ (k : ℕ). (a - k) % a) none ∙ ap (λ (k : ℕ). k % a) (sub-zero a) ∙ mod_self a in
        omega (arith, ap (λ (k : ℕ). k * a) quotient, div-add-mod' p a, nothing)

    uneven : (p % a ≡ 0 → ⊥) → (p + (a - 1)) / a * a ≡ next_multiple_of p a
    uneven some_left =
        let left : p % a < a = mod_below p a some in
        let whole : p + (a - 1) ≡ (p / a + 1) * a + (p % a - 1) = omega (arith, div-add-mod' p a, some_left) in
        let quotient : (p + (a - 1)) / a ≡ p / a + 1 = ap (λ (k : ℕ). k / a) whole ∙ div-mul-add (p / a + 1) a (p % a - 1) (omega arith) in
        let missing : (a - p % a) % a ≡ a - p % a = mod-eq_of_lt (omega (arith, some_left)) in
        omega (arith, ap (λ (k : ℕ). k * a) quotient, div-add-mod' p a, missing)

-- what std calls the next multiple is the least
pub IsLeastMultiple-next : (p a : ℕ) → 0 < a → IsLeastMultiple p a (next_multiple_of p a)
IsLeastMultiple-next p a some =
    let is = rounded p a some in
    let up_to = div-add-mod' (p + (a - 1)) a in
    let left : (p + (a - 1)) % a < a = mod_below (p + (a - 1)) a some in
    let multiple : next_multiple_of p a % a ≡ 0 = ap (λ (k : ℕ). k % a) (sym is) ∙ mul-mod_left ((p + (a - 1)) / a) a in
    IsLeastMultiple-near p a (next_multiple_of p a) multiple (omega arith) (omega arith)
