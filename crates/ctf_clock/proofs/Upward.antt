-- Steps upward among the numbers of so many bits.
use Rattle.std.proofs.Common.{◌≡◌, ℕ, ◌+◌, ◌-◌, ◌*◌, ◌/◌, ◌%◌, ◌^◌, ◌<◌, ◌≤◌, sym, ap, ◌∙◌, subst, arith, bit_and}
use Rattle.std.proofs.Math.Nat.{add-mul, add-mul-mod_self_right, mod-add-div, mod-lt, mod-le, add-mod-mod, mod-add-mod, mul_comm, lt_of_mul-lt-mul_right}
use Rattle.std.proofs.Math.Pow.{pow_mono, mod-mod-pow}
use Rattle.std.proofs.lemmas.Nat.{pow-add, div-mul-add, and_mask}
use Rattle.ctf_clock.specs.Counting.{steps_up, least_from, IsLeastFrom}

pub positive : (k : ℕ) → 0 < 2 ^ k
positive k = let h : 2 ^ 0 ≤ 2 ^ k = pow_mono {i = 0} {j = k} (omega arith) in omega arith

-- the largest number of k bits, out of the largest of more
pub ones : (j k : ℕ) → (2 ^ (j + k) - 1) / 2 ^ j ≡ 2 ^ k - 1
ones j k =
    let p = positive j in
    let q = positive k in
    let e : 2 ^ (j + k) ≡ 2 ^ k * 2 ^ j = pow-add 2 j k ∙ mul_comm (2 ^ j) (2 ^ k) in
    let f : 2 ^ k * 2 ^ j ≡ (2 ^ k - 1) * 2 ^ j + 1 * 2 ^ j = ap (λ x. x * 2 ^ j) (omega arith) ∙ add-mul (2 ^ k - 1) 1 (2 ^ j) in
    let g : 2 ^ (j + k) - 1 ≡ (2 ^ k - 1) * 2 ^ j + (2 ^ j - 1) = omega arith in
    ap (λ x. x / 2 ^ j) g ∙ div-mul-add (2 ^ k - 1) (2 ^ j) (2 ^ j - 1) (omega arith)

-- a multiple of p, less a number below it, is a multiple of p and what is left of p
less : (a p q r : ℕ) → r < p → p * q + r < a * p → (d : ℕ) × (a * p - (p * q + r) ≡ (p - r) + d * p)
less a p q r h below =
    let s : q * p < a * p = let e = mul_comm p q in omega arith in
    let t : q < a = lt_of_mul-lt-mul_right p s in
    let d = a - q - 1 in
    let e : a * p ≡ q * p + p + d * p = ap (λ x. x * p) (omega arith) ∙ (add-mul (q + 1) d p ∙ ap (λ x. x + d * p) (add-mul q 1 p ∙ ap (λ x. q * p + x) (omega arith))) in
    (d, let f = mul_comm p q in omega arith)

-- the distance in a word, in its low bits
pub in_low_bits : (j k from to : ℕ) → from < 2 ^ (j + k) → (to + (2 ^ (j + k) - from)) % 2 ^ (j + k) % 2 ^ k ≡ steps_up k from to
in_low_bits j k from to h =
    let p = 2 ^ k in
    let split : from % p + p * (from / p) ≡ from = mod-add-div from p in
    let e : 2 ^ (j + k) ≡ 2 ^ j * p = pow-add 2 j k in
    let w = less (2 ^ j) p (from / p) (from % p) (mod-lt from (positive k)) (omega arith) in
    let g : to + (2 ^ (j + k) - from) ≡ (to + (p - from % p)) + w.0 * p = let x = w.1 in omega arith in
    mod-mod-pow (to + (2 ^ (j + k) - from)) j k ∙ (ap (λ x. x % p) g ∙ add-mul-mod_self_right (to + (p - from % p)) w.0 p)

-- the same, written with a mask
pub masked : (n b from to : ℕ) → b ≡ n → n ≤ 64 → from < 2 ^ 64 → bit_and ((to + (2 ^ 64 - from)) % 2 ^ 64) ((2 ^ 64 - 1) / 2 ^ (64 - b)) ≡ steps_up n from to
masked n b from to e h fits =
    let j = 64 - n in
    let w : 64 ≡ j + n = omega arith in
    let x = (to + (2 ^ 64 - from)) % 2 ^ 64 in
    let mask : (2 ^ 64 - 1) / 2 ^ (64 - b) ≡ 2 ^ n - 1 = ap (λ y. (2 ^ 64 - 1) / 2 ^ (64 - y)) e ∙ (ap (λ y. (2 ^ y - 1) / 2 ^ j) w ∙ ones j n) in
    let low = in_low_bits j n from to (subst (λ y. from < 2 ^ y) w fits) in
    ap (λ y. bit_and x y) mask ∙ (and_mask x n ∙ (ap (λ y. (to + (2 ^ y - from)) % 2 ^ y % 2 ^ n) w ∙ low))

pub steps_up-lt : (n from to : ℕ) → steps_up n from to < 2 ^ n
steps_up-lt n from to = mod-lt (to + (2 ^ n - from % 2 ^ n)) (positive n)

-- the sum is the least number that is not below the old one and has the bits of another
pub is_least : (n old x : ℕ) → IsLeastFrom n old x (least_from n old x)
is_least n old x =
    let p = 2 ^ n in
    let r = old % p in
    let q = old / p in
    let split : r + q * p ≡ old = ap (λ y. r + y) (mul_comm q p) ∙ mod-add-div old p in
    let below : r < p = mod-lt old (positive n) in
    let more : (q + 1) * p ≡ q * p + p = add-mul q 1 p ∙ ap (λ y. q * p + y) (omega arith) in
    let around : old + (x + (p - r)) ≡ x + (q + 1) * p = omega arith in
    record {
      reached = omega arith;
      same_bits = add-mod-mod old (x + (p - r)) p ∙ (ap (λ y. y % p) around ∙ add-mul-mod_self_right x (q + 1) p);
      least = λ m reached same.
          let further : m + (p - r) ≡ (m - old) + (q + 1) * p = omega arith in
          let e : steps_up n old x ≡ (m - old) % p =
          sym (mod-add-mod x p (p - r)) ∙ (ap (λ y. (y + (p - r)) % p) (sym same) ∙ (mod-add-mod m p (p - r) ∙ (ap (λ y. y % p) further ∙ add-mul-mod_self_right (m - old) (q + 1) p))) in
          let h : (m - old) % p ≤ m - old = mod-le (m - old) p in
          omega arith;
    }
