use Rattle.std.proofs.Common.{◌≡◌, ℕ, ◌+◌, ◌-◌, ◌*◌, ◌/◌, ap, sym, ◌∙◌, arith}
use Rattle.std.proofs.Math.Nat.{div-one}
use Rattle.ctf_bits.specs.declared.number.Order.TheVariants.{Be}
use Rattle.ctf_bits.specs.Number.{number}
use Rattle.ctf_bits.proofs.Growing.{first-be, rest_of_first-be, more-be, fits_word}
use Rattle.ctf_bits.proofs.parts.joined_be.Goals as goal

pub returns-then-end-le8 : goal.returns-then-end-le8
returns-then-end-le8 c =
    first-be c.args.bytes.now c.args.shift c.args.n _ _ c.low_bits.result (omega arith) (omega arith) c.low_bits.ensures

pub loop-i-init : goal.loop-i-init
loop-i-init c = rest_of_first-be c.args.bytes.now c.args.shift _ c.low_bits-value.result (omega arith) c.low_bits-value.ensures

-- a whole byte more
pub loop-i-preserved : goal.loop-i-preserved
loop-i-preserved c =
    more-be c.args.bytes.now c.args.shift (8 * c.loop-i.i - c.args.shift) c.loop-i.i 8 0 (8 * (c.loop-i.i + 1) - c.args.shift) c.loop-i.value c.from.result
    (omega arith) (omega arith) (omega arith) (omega arith) (c.type_inv.bytes c.loop-i.i).fits c.loop-i.invariant
    (c.from.ensures ∙ sym (div-one _))

-- the bits of the last byte
pub returns : goal.returns
returns c =
    let s = c.args.shift in
    let last = (s + c.args.n - 1) / 8 in
    let ends : c.loop-i.i ≡ last = omega arith in
    let so_far = c.loop-i.invariant ∙ ap (λ (i : ℕ). number Be c.args.bytes.now s (8 * i - s)) ends in
    more-be c.args.bytes.now s (8 * last - s) last _ _ c.args.n c.loop-i.value c.from-2.result
    (omega arith) (omega arith) c.requires.in_a_word (omega arith) (c.type_inv.bytes last).fits so_far c.from-2.ensures

pub overflow_add-result : goal.overflow_add-result
overflow_add-result c =
    let s = c.args.shift in
    let last = (s + c.args.n - 1) / 8 in
    let ends : c.loop-i.i ≡ last = omega arith in
    let so_far = c.loop-i.invariant ∙ ap (λ (i : ℕ). number Be c.args.bytes.now s (8 * i - s)) ends in
    record {
      fits = fits_word Be c.args.bytes.now s c.args.n _ c.requires.in_a_word
          (more-be c.args.bytes.now s (8 * last - s) last _ _ c.args.n c.loop-i.value c.from-2.result
          (omega arith) (omega arith) c.requires.in_a_word (omega arith) (c.type_inv.bytes last).fits so_far c.from-2.ensures);
    }
