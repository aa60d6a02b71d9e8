use Rattle.std.proofs.Common.{◌≡◌, ◌-◌, ◌∙◌, arith, rules}
use Rattle.ctf_bits.proofs.Placing.{half_of_ones, last_of}
use Rattle.ctf_bits.proofs.Windows.{ones}
use Rattle.ctf_bits.proofs.window.Window.new.Goals as goal
use Rattle.ctf_bits.proofs.window.Window.new.Goals.{then-is_signed, else-is_signed}

pub invariant_of-result : goal.invariant_of-result
invariant_of-result c =
    let n = c.args.size in
    let all = ones n (64 - n) (omega arith) in
    let last : c.if-is_signed.last ≡ last_of c.args.is_signed n = elim c.if-is_signed.branch [
      | then-is_signed w ↦ w.last-is ∙ half_of_ones n _ c.requires.some_bits all ∙ search rules
      | else-is_signed w ↦ w.last-is ∙ all ∙ search rules
    ] in
    (c.requires.some_bits, omega arith, c.if-shift-size-gt64.false, omega arith, all, last)
