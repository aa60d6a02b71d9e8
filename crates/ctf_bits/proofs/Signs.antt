-- Two's complement, by shifting a number to the top of a word and back.
use Rattle.std.proofs.Common.{◌≡◌, ℕ, ℤ, pos, ◌+◌, ◌-◌, ◌*◌, ◌/◌, ◌^◌, ◌<◌, ◌≤◌, ◌-ℤ◌, List, suc, ap, sym, ◌∙◌, refl, arith, inl, inr, Bool, cond, w64, to_z, of_z}
use lib.IntN.{negsuc}
use lib.Signed.{shr_z}
use Rattle.std.proofs.Math.Nat.{add-mul, div-eq_of_lt, mul-le-mul_right, pow-le-pow_right}
use Rattle.std.proofs.lemmas.Bool.{cases_lt, le-ltb}
use Rattle.std.proofs.lemmas.Int.{ints, to_z_pos}
use Rattle.std.proofs.lemmas.Nat.{pow-add, shl-shr, shr_high, pow_pos}
use Rattle.ctf_bits.specs.declared.number.Order.{Order}
use Rattle.ctf_bits.specs.declared.number.Order.TheVariants.{Le, Be}
use Rattle.ctf_bits.specs.Number.{number, bit_of, top_bit, signed_number}
use Rattle.ctf_bits.proofs.Numbers.{number-zero, number-le, number-be, number-lt}
use Rattle.ctf_bits.proofs.Joins.{join-be}

-- a word whose top bit is set
top_half : (n : ℕ) → 2 ^ 63 ≤ n → to_z w64 n ≡ negsuc (2 ^ 64 - suc n)
top_half n above = ap (λ (b : Bool). cond b (pos n) (negsuc (2 ^ 64 - suc n))) (le-ltb n (2 ^ 63) above)

-- shifted to the top and back, m bits below the top one and k above
pub shifted : (v m k : ℕ) → m + 1 + k ≡ 64 → v < 2 ^ (m + 1)
    → to_z w64 (of_z w64 (shr_z (to_z w64 (v * 2 ^ k)) (2 ^ k))) ≡ pos v -ℤ pos (v / 2 ^ m * 2 ^ (m + 1))
shifted v m k width bits = elim (cases_lt v (2 ^ m)) [ inl below ↦ low below | inr above ↦ high above ]
  where
    word : 2 ^ m * 2 * 2 ^ k ≡ 2 ^ 64
    word = ap (λ (x : ℕ). x * 2 ^ k) (sym (pow-add 2 m 1)) ∙ sym (pow-add 2 (m + 1) k) ∙ ap (λ (x : ℕ). 2 ^ x) width

    top_weight : 2 ^ m ≤ 2 ^ 63
    top_weight = let below_top : m ≤ 63 = omega arith in pow-le-pow_right {n = 2} (omega arith) below_top

    double : 2 ^ (m + 1) ≡ 2 ^ m * 2
    double = pow-add 2 m 1

    low : v < 2 ^ m → to_z w64 (of_z w64 (shr_z (to_z w64 (v * 2 ^ k)) (2 ^ k))) ≡ pos v -ℤ pos (v / 2 ^ m * 2 ^ (m + 1))
    low below =
        let inner : to_z w64 (v * 2 ^ k) ≡ pos (v * 2 ^ k) =
        to_z_pos w64 (v * 2 ^ k) (omega (arith, word, pow_pos k, mul-le-mul_right {m = v + 1} {n = 2 ^ m} (2 ^ k) (omega arith))) in
        let down : shr_z (to_z w64 (v * 2 ^ k)) (2 ^ k) ≡ pos v = ap (λ (z : ℤ). shr_z z (2 ^ k)) inner ∙ ap pos (shl-shr v k) in
        let none : v / 2 ^ m ≡ 0 = div-eq_of_lt below in
        let unsigned : pos v -ℤ pos (0 * 2 ^ (m + 1)) ≡ pos v = omega (arith, ints) in
        ap (λ (z : ℤ). to_z w64 (of_z w64 z)) down ∙ to_z_pos w64 v (omega (arith, top_weight))
        ∙ sym (ap (λ (q : ℕ). pos v -ℤ pos (q * 2 ^ (m + 1))) none ∙ unsigned)

    parts_of : (y : ℕ) → y + v + 1 ≡ 2 ^ (m + 1) → 2 ^ 64 - suc (v * 2 ^ k) ≡ y * 2 ^ k + (2 ^ k - 1)
    parts_of y is =
        let spread : (y + v + 1) * 2 ^ k ≡ y * 2 ^ k + v * 2 ^ k + 1 * 2 ^ k =
        add-mul (y + v) 1 (2 ^ k) ∙ ap (λ (x : ℕ). x + 1 * 2 ^ k) (add-mul y v (2 ^ k)) in
        let whole : (y + v + 1) * 2 ^ k ≡ 2 ^ 64 = ap (λ (x : ℕ). x * 2 ^ k) (is ∙ double) ∙ word in
        omega (arith, pow_pos k)

    high : 2 ^ m ≤ v → to_z w64 (of_z w64 (shr_z (to_z w64 (v * 2 ^ k)) (2 ^ k))) ≡ pos v -ℤ pos (v / 2 ^ m * 2 ^ (m + 1))
    high above =
        let y : ℕ = 2 ^ (m + 1) - v - 1 in
        let at_top : 2 ^ 63 ≤ v * 2 ^ k = omega (arith, word, mul-le-mul_right {m = 2 ^ m} {n = v} (2 ^ k) above) in
        let in_word : v * 2 ^ k + 2 ^ k ≤ 2 ^ 64 = omega (arith, word, ap (λ (x : ℕ). x * 2 ^ k) double, add-mul v 1 (2 ^ k), mul-le-mul_right {m = v + 1} {n = 2 ^ (m + 1)} (2 ^ k) (omega arith)) in
        let inner : to_z w64 (v * 2 ^ k) ≡ negsuc (2 ^ 64 - suc (v * 2 ^ k)) = top_half (v * 2 ^ k) at_top in
        let parts : 2 ^ 64 - suc (v * 2 ^ k) ≡ y * 2 ^ k + (2 ^ k - 1) = parts_of y (omega arith) in
        let quotient : (2 ^ 64 - suc (v * 2 ^ k)) / 2 ^ k ≡ y =
        ap (λ (x : ℕ). x / 2 ^ k) parts ∙ shr_high y k (2 ^ k - 1) (omega (arith, pow_pos k)) in
        let down : shr_z (to_z w64 (v * 2 ^ k)) (2 ^ k) ≡ negsuc y = ap (λ (z : ℤ). shr_z z (2 ^ k)) inner ∙ ap negsuc quotient in
        let small : y < 2 ^ 63 = omega (arith, double, top_weight) in
        let back : to_z w64 (of_z w64 (negsuc y)) ≡ negsuc y = omega (arith, ints) in
        let whole : v ≡ 1 * 2 ^ m + (v - 2 ^ m) = omega arith in
        let one : v / 2 ^ m ≡ 1 = ap (λ (x : ℕ). x / 2 ^ m) whole ∙ shr_high 1 m (v - 2 ^ m) (omega (arith, double)) in
        let signed : pos v -ℤ pos (1 * 2 ^ (m + 1)) ≡ negsuc y = omega (arith, ints) in
        ap (λ (z : ℤ). to_z w64 (of_z w64 z)) down ∙ back ∙ sym (ap (λ (q : ℕ). pos v -ℤ pos (q * 2 ^ (m + 1))) one ∙ signed)

-- the top bit of a number is the bit that weighs most
pub top_bit-number : (order : Order) (bytes : List ℕ) (p m : ℕ) → number order bytes p (m + 1) / 2 ^ m ≡ top_bit order bytes p (m + 1)
top_bit-number Le bytes p m =
    let last : p + m ≡ p + (m + 1 - 1) = omega arith in
    let turned : number Le bytes p (m + 1) ≡ bit_of Le bytes (p + m) * 2 ^ m + number Le bytes p m = number-le bytes p m ∙ omega arith in
    ap (λ (x : ℕ). x / 2 ^ m) turned ∙ shr_high (bit_of Le bytes (p + m)) m (number Le bytes p m) (number-lt Le bytes p m) ∙ ap (bit_of Le bytes) last
top_bit-number Be bytes p m =
    let count : m + 1 ≡ 1 + m = omega arith in
    let place : p + 0 ≡ p = omega arith in
    let first : number Be bytes p 1 ≡ bit_of Be bytes p =
    number-be bytes p 0 ∙ omega (arith, number-zero Be bytes p, ap (bit_of Be bytes) place) in
    ap (λ (n : ℕ). number Be bytes p n / 2 ^ m) count ∙ ap (λ (x : ℕ). x / 2 ^ m) (join-be bytes p 1 m)
    ∙ shr_high (number Be bytes p 1) m (number Be bytes (p + 1) m) (number-lt Be bytes (p + 1) m) ∙ first

-- two's complement, from the number
pub signed_number-number : (order : Order) (bytes : List ℕ) (p n v : ℕ) → 1 ≤ n → v ≡ number order bytes p n
    → pos v -ℤ pos (v / 2 ^ (n - 1) * 2 ^ n) ≡ signed_number order bytes p n
unfolding signed_number
signed_number-number order bytes p n v some is =
    let count : n ≡ n - 1 + 1 = omega arith in
    let top : v / 2 ^ (n - 1) ≡ top_bit order bytes p n =
    ap (λ (x : ℕ). x / 2 ^ (n - 1)) (is ∙ ap (number order bytes p) count) ∙ top_bit-number order bytes p (n - 1) ∙ ap (top_bit order bytes p) (sym count) in
    rw (top, is) refl
