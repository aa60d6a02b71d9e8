use Rattle.std.proofs.Common.{◌≡◌, ℕ, ◌+◌, ◌-◌, ◌*◌, ◌/◌, ◌%◌, ◌^◌, ◌<◌, ◌≤◌, ap, sym, subst, ◌∙◌, arith, w64}
use Rattle.std.specs.Int.{next_multiple_of, trailing_zeros}
use Rattle.std.proofs.Math.Nat.{mod-eq_of_lt}
use Rattle.std.proofs.lemmas.Nat.{div-add-mod', one_shl}
use Rattle.std.proofs.lemmas.Nat.Bits.{bit_at-trailing_zeros}
use Rattle.ctf_bits.specs.Align.{IsLeastMultiple}
use Rattle.ctf_bits.proofs.Aligns.{IsLeastMultiple-near, IsLeastMultiple-next, rounded}
use Rattle.ctf_bits.proofs.align.up.Goals as goal

-- by shifts
by_shifts : (p a s x : ℕ) → p ≤ 2 ^ 62 → a ≤ 2 ^ 62 → 0 < a → x ≡ p + (a - 1) → a ≡ 2 ^ s → x / 2 ^ s * 2 ^ s % 2 ^ 64 ≡ next_multiple_of p a
by_shifts p a s x place alignment some past power =
    let whole : (p + (a - 1)) / a * a % 2 ^ 64 ≡ (p + (a - 1)) / a * a = mod-eq_of_lt (omega (arith, div-add-mod' (p + (a - 1)) a)) in
    ap (λ (y : ℕ). y / 2 ^ s * 2 ^ s % 2 ^ 64) past ∙ ap (λ (k : ℕ). (p + (a - 1)) / k * k % 2 ^ 64) (sym power) ∙ whole ∙ rounded p a some

next_is_least : (p a x : ℕ) → 0 < a → x ≡ next_multiple_of p a → IsLeastMultiple p a x
next_is_least p a x some is = subst (λ (y : ℕ). IsLeastMultiple p a y) (sym is) (IsLeastMultiple-next p a some)

power_of : (a : ℕ) → 0 < a → a < 2 ^ 64 → a ≡ 1 * 2 ^ trailing_zeros w64 a % 2 ^ 64 → a ≡ 2 ^ trailing_zeros w64 a
power_of a some fits is = is ∙ one_shl (trailing_zeros w64 a) 64 (bit_at-trailing_zeros w64 a some fits).0

pub returns-then-a-shift-clause-value : goal.returns-then-a-shift-clause-value
returns-then-a-shift-clause-value c =
    let power = power_of c.args.a c.requires.some_bits c.ranges.a.fits c.if-a-shift.true in
    by_shifts c.args.p c.args.a _ _ c.requires.place c.requires.alignment c.requires.some_bits (omega arith) power

pub returns-then-a-shift-clause-least : goal.returns-then-a-shift-clause-least
returns-then-a-shift-clause-least c =
    let power = power_of c.args.a c.requires.some_bits c.ranges.a.fits c.if-a-shift.true in
    next_is_least c.args.p c.args.a _ c.requires.some_bits
    (by_shifts c.args.p c.args.a _ _ c.requires.place c.requires.alignment c.requires.some_bits (omega arith) power)

pub returns-else-a-shift-clause-least : goal.returns-else-a-shift-clause-least
returns-else-a-shift-clause-least c =
    let next = c.next_multiple_of.ensures in
    IsLeastMultiple-near c.args.p c.args.a c.next_multiple_of.result next.multiple (omega arith) (omega arith)
