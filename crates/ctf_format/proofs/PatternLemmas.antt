-- The bits of numbers by masks.
use Rattle.std.proofs.Common.{◌≡◌, ℕ, ◌-◌, ◌*◌, ◌%◌, ◌^◌, ◌≤◌, ℤ, pos, negsuc, ◌≤ℤ◌, ◌<ℤ◌, bit_and, ap, ◌∙◌, arith}
use Rattle.std.proofs.lemmas.Nat.{pow_below, and_mask}
use Rattle.std.proofs.lemmas.Int.{ints}
use Rattle.std.specs.Prelude.{unsigned_abs}
use Rattle.ctf_format.specs.Numbers.{pattern}

-- one bit more than a mask has, at 128 bits
pub above_mask : (k : ℕ) → k ≤ 64 → 1 * 2 ^ k % 340282366920938463463374607431768211456 ≡ 2 ^ k
above_mask k few = let small = pow_below k 128 (omega arith) in omega arith

pub masked : (n k : ℕ) → k ≤ 64 → bit_and n (1 * 2 ^ k % 340282366920938463463374607431768211456 - 1) ≡ n % 2 ^ k
masked n k few = ap (λ m. bit_and n (m - 1)) (above_mask k few) ∙ and_mask n k

pub pattern_upward : (number bits size : ℕ) (z : ℤ) → bits ≤ 64 → bits ≡ size → pos 0 ≤ℤ z → number ≡ unsigned_abs z → bit_and number (1 * 2 ^ bits % 340282366920938463463374607431768211456 - 1) ≡ pattern size z
unfolding pattern
pattern_upward number bits size (pos n) few same up is = masked number bits few ∙ (λ i. is i % 2 ^ same i)
pattern_upward number bits size (negsuc n) few same up is = absurd (omega (arith, ints))

pub pattern_downward : (number bits size : ℕ) (z : ℤ) → bits ≤ 64 → bits ≡ size → z <ℤ pos 0 → number ≡ unsigned_abs z → 1 * 2 ^ bits % 340282366920938463463374607431768211456 - 1 - bit_and (number - 1) (1 * 2 ^ bits % 340282366920938463463374607431768211456 - 1) ≡ pattern size z
unfolding pattern
pattern_downward number bits size (pos n) few same down is = absurd (omega (arith, ints))
pattern_downward number bits size (negsuc n) few same down is =
    let mask = above_mask bits few in
    let low = masked (number - 1) bits few in
    let one : number - 1 ≡ n = omega arith in
    let same_low : (number - 1) % 2 ^ bits ≡ n % 2 ^ size = λ i. one i % 2 ^ same i in
    let power : 2 ^ bits ≡ 2 ^ size = ap (λ k. 2 ^ k) same in
    omega arith
