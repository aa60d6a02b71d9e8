-- Bits that lie within a word of 64.
use Rattle.std.proofs.Common.{◌≡◌, ℕ, ◌+◌, ◌-◌, ◌*◌, ◌/◌, ◌%◌, ◌^◌, ◌<◌, ◌≤◌, List, ap, sym, ◌∙◌, bit_and, arith}
use Rattle.std.proofs.Math.Nat.{add-mul, div-eq_of_lt}
use Rattle.std.proofs.lemmas.Nat.{and_mask, pow-add, pow_pos, shr_high, div-mul-add, mod-mul-add}
use Rattle.ctf_bits.specs.declared.number.Order.TheVariants.{Le, Be}
use Rattle.ctf_bits.specs.Number.{number}
use Rattle.ctf_bits.proofs.Joins.{join-le, join-be}
use Rattle.ctf_bits.proofs.Numbers.{number-lt}

-- n bits after s bits and before r bits
pub between-le : (bytes : List ℕ) (s n r w : ℕ) → w ≡ number Le bytes 0 (s + (n + r)) → w / 2 ^ s % 2 ^ n ≡ number Le bytes s n
between-le bytes s n r w is =
    let low = number Le bytes 0 s in
    let wanted = number Le bytes s n in
    let high = number Le bytes (s + n) r in
    let upper = number Le bytes s (n + r) in
    let place : 0 + s ≡ s = omega arith in
    let joined : number Le bytes 0 (s + (n + r)) ≡ low + upper * 2 ^ s =
    join-le bytes 0 s (n + r) ∙ ap (λ (p : ℕ). low + number Le bytes p (n + r) * 2 ^ s) place in
    let split : w ≡ upper * 2 ^ s + low = is ∙ joined ∙ omega arith in
    let shifted : w / 2 ^ s ≡ upper = ap (λ (x : ℕ). x / 2 ^ s) split ∙ div-mul-add upper (2 ^ s) low (number-lt Le bytes 0 s) in
    let inner : upper ≡ high * 2 ^ n + wanted = join-le bytes s n r ∙ omega arith in
    ap (λ (x : ℕ). x % 2 ^ n) (shifted ∙ inner) ∙ mod-mul-add high (2 ^ n) wanted (number-lt Le bytes s n)

pub between-be : (bytes : List ℕ) (s n r w : ℕ) → w ≡ number Be bytes 0 (s + (n + r)) → w / 2 ^ r % 2 ^ n ≡ number Be bytes s n
between-be bytes s n r w is =
    let above = number Be bytes 0 s in
    let wanted = number Be bytes s n in
    let low = number Be bytes (s + n) r in
    let place : 0 + s ≡ s = omega arith in
    let joined : w ≡ above * 2 ^ (n + r) + (wanted * 2 ^ r + low) =
    is ∙ join-be bytes 0 s (n + r) ∙ ap (λ (p : ℕ). above * 2 ^ (n + r) + number Be bytes p (n + r)) place
    ∙ ap (λ (x : ℕ). above * 2 ^ (n + r) + x) (join-be bytes s n r) in
    let spread : (above * 2 ^ n + wanted) * 2 ^ r ≡ above * 2 ^ (n + r) + wanted * 2 ^ r =
    add-mul (above * 2 ^ n) wanted (2 ^ r) ∙ rw (pow-add 2 n r) (omega arith) in
    let split : w ≡ (above * 2 ^ n + wanted) * 2 ^ r + low = joined ∙ omega (arith, spread) in
    ap (λ (x : ℕ). x / 2 ^ r % 2 ^ n) split ∙ ap (λ (x : ℕ). x % 2 ^ n) (div-mul-add (above * 2 ^ n + wanted) (2 ^ r) low (number-lt Be bytes (s + n) r))
    ∙ mod-mul-add above (2 ^ n) wanted (number-lt Be bytes s n)

-- the ones of n bits, made of those of a word
pub ones : (n k : ℕ) → n + k ≡ 64 → 18446744073709551615 / 2 ^ k ≡ 2 ^ n - 1
ones n k width =
    let top : ℕ = 2 ^ n - 1 in
    let word : 2 ^ n * 2 ^ k ≡ 2 ^ 64 = sym (pow-add 2 n k) ∙ ap (λ (x : ℕ). 2 ^ x) width in
    let more : top + 1 ≡ 2 ^ n = omega (arith, pow_pos n) in
    let spread : 2 ^ n * 2 ^ k ≡ top * 2 ^ k + 1 * 2 ^ k = ap (λ (x : ℕ). x * 2 ^ k) (sym more) ∙ add-mul top 1 (2 ^ k) in
    let parts : 18446744073709551615 ≡ top * 2 ^ k + (2 ^ k - 1) = omega (arith, word, spread, pow_pos k) in
    ap (λ (x : ℕ). x / 2 ^ k) parts ∙ shr_high top k (2 ^ k - 1) (omega (arith, pow_pos k))

-- what is at the most half of the ones of n bits has no top bit
pub low_half : (v n : ℕ) → 1 ≤ n → n ≤ 64 → v ≤ 18446744073709551615 / 2 ^ (64 - n) / 2 → v / 2 ^ (n - 1) ≡ 0
low_half v n some few within =
    let double : 2 ^ n ≡ 2 ^ (n - 1) * 2 = ap (λ (k : ℕ). 2 ^ k) (let count : n ≡ n - 1 + 1 = omega arith in count) ∙ pow-add 2 (n - 1) 1 in
    let all = ones n (64 - n) (omega arith) in
    div-eq_of_lt (omega (arith, within, all, double, pow_pos (n - 1)))

pub half_held : (v n : ℕ) → 1 ≤ n → n ≤ 64 → v < 2 ^ (n - 1) → v ≤ 18446744073709551615 / 2 ^ (64 - n) / 2
half_held v n some few below =
    let double : 2 ^ n ≡ 2 ^ (n - 1) * 2 = ap (λ (k : ℕ). 2 ^ k) (let count : n ≡ n - 1 + 1 = omega arith in count) ∙ pow-add 2 (n - 1) 1 in
    let all = ones n (64 - n) (omega arith) in
    omega (arith, below, all, double)

-- the lowest n bits of a number
pub masked : (x n : ℕ) → n ≤ 64 → bit_and x (18446744073709551615 / 2 ^ (64 - n)) ≡ x % 2 ^ n
masked x n few = ap (bit_and x) (ones n (64 - n) (omega arith)) ∙ and_mask x n
