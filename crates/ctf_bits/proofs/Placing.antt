-- Integers whose place is known beforehand.
use Rattle.std.proofs.Common.{◌≡◌, ℕ, pos, ◌+◌, ◌-◌, ◌*◌, ◌/◌, ◌^◌, ◌-ℤ◌, ◌<◌, ◌≤◌, Bool, true, false, List, drop, ap, sym, subst, refl, ◌∙◌, arith}
use Rattle.std.specs.Prelude.{if◌then◌else◌}
use Rattle.std.proofs.Math.Nat.{div-eq_of_lt, le-div_iff_mul-le, mul-le-mul_right}
use Rattle.std.proofs.lemmas.Int.{ints}
use Rattle.std.proofs.lemmas.Nat.{pow-add, pow_pos}
use Rattle.ctf_bits.specs.declared.number.Order.{Order}
use Rattle.ctf_bits.specs.Number.{number, signed_number}
use Rattle.ctf_bits.specs.Placed.{Placed, number_after}
use Rattle.ctf_bits.proofs.Joins.{number-drop}
use Rattle.ctf_bits.proofs.Numbers.{number-lt}
use Rattle.ctf_bits.proofs.Signs.{signed_number-number}

-- the greatest number of so many bits, of which one may be the sign's
abbrev pub last_of : Bool → ℕ → ℕ
last_of signed n = if signed then 2 ^ (n - 1) - 1 else 2 ^ n - 1

-- one power of two more
double : (n : ℕ) → 1 ≤ n → 2 ^ n ≡ 2 ^ (n - 1) * 2
double n some = ap (λ (k : ℕ). 2 ^ k) (let count : n ≡ n - 1 + 1 = omega arith in count) ∙ pow-add 2 (n - 1) 1

-- half of the ones
pub half_of_ones : (n mask : ℕ) → 1 ≤ n → mask ≡ 2 ^ n - 1 → mask / 2 ≡ 2 ^ (n - 1) - 1
half_of_ones n mask some is = omega (arith, is, double n some, pow_pos (n - 1))

-- bits in the eight bytes that are after others
pub read_after : (order : Order) (bytes rest : List ℕ) (at s n p x : ℕ) → rest ≡ drop at bytes → 8 * at + s ≡ p → x ≡ number order rest s n → x ≡ number order bytes p n
read_after order bytes rest at s n p x after here is =
    is ∙ ap (λ (b : List ℕ). number order b s n) after ∙ sym (number-drop order bytes at s n) ∙ ap (λ (q : ℕ). number order bytes q n) here

-- bits that are no number below zero
plain : (order : Order) (signed : Bool) (bytes : List ℕ) (p n x : ℕ) → 1 ≤ n → x ≡ number order bytes p n → x ≤ last_of signed n → (if signed then signed_number order bytes p n else pos (number order bytes p n)) ≡ pos x
plain order true bytes p n x some is within =
    let none : x / 2 ^ (n - 1) ≡ 0 = div-eq_of_lt (omega (arith, within, pow_pos (n - 1))) in
    let nothing : pos x -ℤ pos (0 * 2 ^ n) ≡ pos x = omega (arith, ints) in
    sym (signed_number-number order bytes p n x some is) ∙ ap (λ (q : ℕ). pos x -ℤ pos (q * 2 ^ n)) none ∙ nothing
plain order false bytes p n x some is within = ap pos (sym is)

pub plain_after : (order : Order) (w : Placed) (bytes : List ℕ) (first x : ℕ) → 1 ≤ w.size → x ≡ number order bytes (8 * first + w.place) w.size → x ≤ last_of w.is_signed w.size → number_after order w bytes first ≡ pos x
plain_after order w bytes first x some is within = plain order w.is_signed bytes (8 * first + w.place) w.size x some is within

-- what is above the greatest number is below zero
below : (order : Order) (signed : Bool) (bytes : List ℕ) (p n x v : ℕ) → 1 ≤ n → x ≡ number order bytes p n → last_of signed n < x
    → (if signed then signed_number order bytes p n else pos (number order bytes p n)) ≡ pos v → ⊥
below order true bytes p n x v some is above same =
    let few : x < 2 ^ n = subst (λ k. k < 2 ^ n) (sym is) (number-lt order bytes p n) in
    let half : 1 * 2 ^ (n - 1) ≤ x = omega (arith, above, pow_pos (n - 1)) in
    let one : 1 ≤ x / 2 ^ (n - 1) = (le-div_iff_mul-le (pow_pos (n - 1))).1 half in
    let far : 1 * 2 ^ n ≤ x / 2 ^ (n - 1) * 2 ^ n = mul-le-mul_right (2 ^ n) one in
    let back : pos x -ℤ pos (x / 2 ^ (n - 1) * 2 ^ n) ≡ pos v = signed_number-number order bytes p n x some is ∙ same in
    omega (arith, ints, few, far, back)
below order false bytes p n x v some is above same =
    let few : x < 2 ^ n = subst (λ k. k < 2 ^ n) (sym is) (number-lt order bytes p n) in
    omega (arith, above, few)

pub below_after : (order : Order) (w : Placed) (bytes : List ℕ) (first x v : ℕ) → 1 ≤ w.size → x ≡ number order bytes (8 * first + w.place) w.size
    → last_of w.is_signed w.size < x → number_after order w bytes first ≡ pos v → ⊥
below_after order w bytes first x v some is above = below order w.is_signed bytes (8 * first + w.place) w.size x v some is above

-- and so it has a sign
pub only_signed : (order : Order) (signed : Bool) (bytes : List ℕ) (p n x : ℕ) → x ≡ number order bytes p n → last_of signed n < x → signed ≡ true
only_signed order true bytes p n x is above = refl
only_signed order false bytes p n x is above = let few : x < 2 ^ n = subst (λ v. v < 2 ^ n) (sym is) (number-lt order bytes p n) in absurd (omega (arith, above, few))
