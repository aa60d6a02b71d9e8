use Rattle.std.proofs.Common.{◌≡◌, ℕ, ℤ, pos, ◌+◌, ◌-◌, ◌*◌, ◌/◌, ◌%◌, ◌^◌, ◌<◌, ◌≤◌, ◌-ℤ◌, ap, sym, subst, ◌∙◌, arith, w64, to_z, of_z}
use lib.Signed.{shr_z}
use Rattle.std.proofs.lemmas.Int.{of_z-to_z}
use Rattle.std.proofs.lemmas.Nat.{shl_whole, shl_below}
use Rattle.ctf_bits.proofs.Signs.{shifted}
use Rattle.ctf_bits.proofs.signed.twos_complement.Goals as goal

-- shifted up by k in a word of 64 bits, and down again
up_and_down : (v n k : ℕ) (x : ℤ) → 1 ≤ n → n + k ≡ 64 → v < 2 ^ n → x ≡ to_z w64 (v * 2 ^ k % 2 ^ 64)
    → to_z w64 (of_z w64 (shr_z (to_z w64 (of_z w64 x)) (2 ^ k))) ≡ pos v -ℤ pos (v / 2 ^ (n - 1) * 2 ^ n)
up_and_down v n k x some width bits is =
    let count : n - 1 + 1 ≡ n = omega arith in
    let whole : v * 2 ^ k % 2 ^ 64 ≡ v * 2 ^ k = shl_whole v n k 64 bits (omega arith) in
    let fits : v * 2 ^ k < 2 ^ 64 = subst (λ (w : ℕ). v * 2 ^ k < 2 ^ w) width (shl_below v n k bits) in
    let word : of_z w64 x ≡ v * 2 ^ k = ap (of_z w64) (is ∙ ap (to_z w64) whole) ∙ of_z-to_z w64 (v * 2 ^ k) fits in
    ap (λ (y : ℕ). to_z w64 (of_z w64 (shr_z (to_z w64 y) (2 ^ k)))) word
    ∙ shifted v (n - 1) k (omega arith) (subst (λ (b : ℕ). v < 2 ^ b) (sym count) bits)
    ∙ ap (λ (b : ℕ). pos v -ℤ pos (v / 2 ^ (n - 1) * 2 ^ b)) count

pub returns : goal.returns
returns c = up_and_down c.args.value c.args.n _ c.cast_signed.result c.requires.some_bits (omega arith) c.requires.bits c.cast_signed.ensures
