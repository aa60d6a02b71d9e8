use Rattle.std.proofs.Common.{◌≡◌, ℕ, ◌+◌, ◌-◌, ◌*◌, ◌/◌, ap, sym, ◌∙◌, arith}
use Rattle.std.proofs.Math.Nat.{mod-eq_of_lt}
use Rattle.ctf_bits.specs.declared.number.Order.TheVariants.{Le}
use Rattle.ctf_bits.specs.Number.{number}
use Rattle.ctf_bits.proofs.Growing.{first-le, rest_of_first-le, more-le, fits_word}
use Rattle.ctf_bits.proofs.parts.joined_le.Goals as goal

pub returns-then-end-le8 : goal.returns-then-end-le8
returns-then-end-le8 c =
    first-le c.args.bytes.now c.args.shift c.args.n _ _ c.low_bits.result (omega arith) (omega arith) (omega arith) c.low_bits.ensures

pub loop-i-init : goal.loop-i-init
loop-i-init c = c.from-value.ensures ∙ rest_of_first-le c.args.bytes.now c.args.shift c.requires.in_first (c.type_inv.bytes 0).fits

-- a whole byte more
pub loop-i-preserved : goal.loop-i-preserved
loop-i-preserved c =
    more-le c.args.bytes.now c.args.shift _ c.loop-i.i 8 (8 * (c.loop-i.i + 1) - c.args.shift) c.loop-i.value c.from.result
    (omega arith) (omega arith) (omega arith) (omega arith) c.loop-i.invariant
    (c.from.ensures ∙ sym (mod-eq_of_lt (c.type_inv.bytes c.loop-i.i).fits))

pub overflow_add-value : goal.overflow_add-value
overflow_add-value c =
    record {
      fits = fits_word Le c.args.bytes.now c.args.shift (8 * (c.loop-i.i + 1) - c.args.shift) _ (omega arith)
          (more-le c.args.bytes.now c.args.shift _ c.loop-i.i 8 (8 * (c.loop-i.i + 1) - c.args.shift) c.loop-i.value c.from.result
          (omega arith) (omega arith) (omega arith) (omega arith) c.loop-i.invariant
          (c.from.ensures ∙ sym (mod-eq_of_lt (c.type_inv.bytes c.loop-i.i).fits)));
    }

-- the bits of the last byte
pub returns : goal.returns
returns c =
    let s = c.args.shift in
    let last = (s + c.args.n - 1) / 8 in
    let ends : c.loop-i.i ≡ last = omega arith in
    let so_far = c.loop-i.invariant ∙ ap (λ (i : ℕ). number Le c.args.bytes.now s (8 * i - s)) ends in
    more-le c.args.bytes.now s _ last _ c.args.n c.loop-i.value c.low_bits-2.result
    (omega arith) (omega arith) c.requires.in_a_word (omega arith) so_far c.low_bits-2.ensures

pub overflow_add-result : goal.overflow_add-result
overflow_add-result c =
    let s = c.args.shift in
    let last = (s + c.args.n - 1) / 8 in
    let ends : c.loop-i.i ≡ last = omega arith in
    let so_far = c.loop-i.invariant ∙ ap (λ (i : ℕ). number Le c.args.bytes.now s (8 * i - s)) ends in
    record {
      fits = fits_word Le c.args.bytes.now s c.args.n _ c.requires.in_a_word
          (more-le c.args.bytes.now s _ last _ c.args.n c.loop-i.value c.low_bits-2.result
          (omega arith) (omega arith) c.requires.in_a_word (omega arith) so_far c.low_bits-2.ensures);
    }
