-- Lemmas on alignments.
use Rattle.std.proofs.Common.{◌≡◌, ℕ, ◌+◌, ◌-◌, ◌*◌, ◌/◌, ◌%◌, ◌^◌, ◌<◌, ◌≤◌, bit_and, sym, ap, ◌∙◌, ⊎_elim, inl, inr, refl, subst, lit<, arith}
use Rattle.std.proofs.Math.Nat.{pow-le-pow_right, mod-mod_of_dvd, zero-mod, mod-add-div', mul-add-mod_self_right, mul-mod_left, mod_self}
use Rattle.std.proofs.Math.Pow.{pow-lt}
use Rattle.std.proofs.lemmas.Bool.{cases_eq, cases_lt}
use Rattle.std.proofs.lemmas.Nat.{pow_pos, pow_below, pow-add, div-add-mod'}
use Rattle.std.proofs.lemmas.Nat.Gcd.{dvd_of_mod-eq-zero}
use Rattle.std.proofs.lemmas.Nat.Bits.{bit_at-trailing_zeros, bit_at-pow_other, and_high_mask}
use Rattle.std.specs.Int.{w64, trailing_zeros, next_multiple_of}
use Rattle.ctf_bits.specs.Align.{IsLeastMultiple}
use Rattle.ctf_bits.proofs.Aligns.{IsLeastMultiple-next, rounded}
use Rattle.ctf_class.specs.Alignment.{IsAlignment, IsLarger}

-- the zeros at the low end of a power of two are its exponent
trailing_zeros-pow : (k : ℕ) → k ≤ 31 → trailing_zeros w64 (2 ^ k) ≡ k
trailing_zeros-pow k within =
    let lowest = bit_at-trailing_zeros w64 (2 ^ k) (pow_pos k) (pow_below k 64 (omega arith)) in
    ⊎_elim (λ same. same) (λ apart. absurd (omega (arith, lowest.1, bit_at-pow_other k (trailing_zeros w64 (2 ^ k)) apart))) (cases_eq (trailing_zeros w64 (2 ^ k)) k)

-- those of an alignment are its exponent
pub trailing_zeros-alignment : (bits : ℕ) (power : IsAlignment bits) → trailing_zeros w64 bits ≡ power.exponent
trailing_zeros-alignment bits power =
    ap (trailing_zeros w64) power.value ∙ trailing_zeros-pow power.exponent power.bounded

-- a mask cuts
mask-cut : (k place : ℕ) → k ≤ 31 → place < 2 ^ 64 → bit_and place (2 ^ 64 - 1 - (2 ^ k - 1)) ≡ place / 2 ^ k * 2 ^ k
mask-cut k place within low =
    let positive = pow_pos k in
    let bounded : 2 ^ k ≤ 2 ^ 31 = pow-le-pow_right (lit< tt) within in
    let mask : 2 ^ 64 - 1 - (2 ^ k - 1) ≡ 2 ^ 64 - 2 ^ k = omega arith in
    ap (bit_and place) mask ∙ and_high_mask 64 k (omega arith) place low

pub cut_by_mask : (unit place : ℕ) → IsAlignment unit → place < 2 ^ 64 → bit_and place (2 ^ 64 - 1 - (unit - 1)) ≡ place / unit * unit
cut_by_mask unit place power low =
    let P : ℕ → Type 0 = λ u. bit_and place (2 ^ 64 - 1 - (u - 1)) ≡ place / u * u in
    subst P (sym power.value) (mask-cut power.exponent place power.bounded low)

-- a place is rounded up by a cut
positive : (unit : ℕ) → IsAlignment unit → 0 < unit
positive unit power = let above = pow_pos power.exponent in let same = power.value in omega arith

pub rounded_up : (unit place sum : ℕ) → IsAlignment unit → sum ≡ place + (unit - 1) → sum / unit * unit ≡ next_multiple_of place unit
rounded_up unit place sum power same =
    ap (λ n. n / unit * unit) same ∙ rounded place unit (positive unit power)

pub near_up : (unit place sum : ℕ) → 0 < unit → sum ≡ place + (unit - 1) → sum / unit * unit < place + unit
near_up unit place sum above same = omega (arith, div-add-mod' sum unit)

pub least_up : (unit kept place sum begin : ℕ) → IsAlignment unit → begin ≡ sum / kept * kept → kept ≡ unit → sum ≡ place + (unit - 1) → IsLeastMultiple place unit begin
least_up unit kept place sum begin power cut read same =
    let P : ℕ → Type 0 = λ r. IsLeastMultiple place unit r in
    let value = cut ∙ (ap (λ u. sum / u * u) read ∙ rounded_up unit place sum power same) in
    subst P (sym value) (IsLeastMultiple-next place unit (positive unit power))

-- the last place of a packet is a multiple of each alignment that divides 8
pub last-place-aligned : (align : ℕ) → 8 % align ≡ 0 → 2 ^ 62 % align ≡ 0
last-place-aligned align divides =
    sym (mod-mod_of_dvd align {b = 8} (2 ^ 62) (dvd_of_mod-eq-zero align divides)) ∙ zero-mod align

-- a place that a multiple of an alignment divides
pub divides_too : (place base a : ℕ) → place % base ≡ 0 → base % a ≡ 0 → place % a ≡ 0
divides_too place base a whole divides =
    sym (mod-mod_of_dvd a {b = base} place (dvd_of_mod-eq-zero a divides)) ∙ ap (λ r. r % a) whole ∙ zero-mod a

-- rounding up after a place that an alignment divides
pub mod-after : (b x a : ℕ) → b % a ≡ 0 → (b + x) % a ≡ x % a
mod-after b x a divides = let whole : b ≡ b / a * a = omega (arith, mod-add-div' b a, divides) in ap (λ k. (k + x) % a) whole ∙ mul-add-mod_self_right (b / a) a x

pub next_after : (b x a : ℕ) → b % a ≡ 0 → next_multiple_of (b + x) a ≡ b + next_multiple_of x a
next_after b x a divides =
    let left = ap (λ r. b + x + (a - r) % a) (mod-after b x a divides) in
    let sum : b + x + (a - x % a) % a ≡ b + (x + (a - x % a) % a) = omega arith in
    left ∙ sum

-- an alignment is a multiple of one that is not larger
pow_multiple : (i j : ℕ) → i ≤ j → 2 ^ j % 2 ^ i ≡ 0
pow_multiple i j below =
    let sum : j ≡ j - i + i = omega (arith, below) in
    ap (λ k. 2 ^ k % 2 ^ i) sum ∙ ap (λ n. n % 2 ^ i) (pow-add 2 (j - i) i) ∙ mul-mod_left (2 ^ (j - i)) (2 ^ i)

multiple_of : (a b : ℕ) → IsAlignment a → IsAlignment b → a ≤ b → b % a ≡ 0
multiple_of a b small large below =
    let Q : ℕ → ℕ → Type 0 = λ x y. y % x ≡ 0 in
    elim (cases_lt large.exponent small.exponent) [
      | inl less ↦ (let powers : 2 ^ large.exponent < 2 ^ small.exponent = pow-lt less in let s = small.value in let l = large.value in absurd (omega (arith, powers, s, l, below)))
      | inr above ↦ subst (λ x. Q x b) (sym small.value) (subst (λ y. Q (2 ^ small.exponent) y) (sym large.value) (pow_multiple small.exponent large.exponent above))
    ]

-- an alignment of a byte or more is one of whole bytes
pub whole_bytes : (bits : ℕ) → IsAlignment bits → 8 ≤ bits → bits % 8 ≡ 0
whole_bytes bits power above =
    multiple_of 8 bits (record { exponent = 3; bounded = omega arith; value = refl }) power above

pub other_is_larger : (one other : ℕ) → IsAlignment one → IsAlignment other → one < other → IsLarger other one other
other_is_larger one other small large below = record {
  one_some = positive one small;
  other_some = positive other large;
  of_one = multiple_of one other small large (omega (arith, below));
  of_other = mod_self other;
  is = inr refl;
}

pub one_is_larger : (one other : ℕ) → IsAlignment one → IsAlignment other → other ≤ one → IsLarger one one other
one_is_larger one other large small below = record {
  one_some = positive one large;
  other_some = positive other small;
  of_one = mod_self one;
  of_other = multiple_of other one small large below;
  is = inl refl;
}
