use Rattle.std.proofs.Common.{◌^◌, sym, ap, ◌∙◌, arith}
use Rattle.std.proofs.lemmas.Nat.{one_shl}
use Rattle.ctf_class.proofs.AlignmentLemmas.{trailing_zeros-alignment}
use Rattle.ctf_class.proofs.align.Align.new.Goals as goal
use Rattle.ctf_class.proofs.align.Align.new.Goals.{then-exponent-gt-LAST_EXPONENT-via-then-exponent-gt-LAST_EXPONENT, then-exponent-gt-LAST_EXPONENT-via-else-exponent-gt-LAST_EXPONENT+then-bits-exponent}

pub returns-then-exponent-gt-LAST_EXPONENT : goal.returns-then-exponent-gt-LAST_EXPONENT
returns-then-exponent-gt-LAST_EXPONENT c = λ power.
    let zeros = trailing_zeros-alignment c.args.bits power in
    elim c.then-exponent-gt-LAST_EXPONENT.branch [
      | then-exponent-gt-LAST_EXPONENT-via-then-exponent-gt-LAST_EXPONENT w ↦ omega (arith, power.bounded)
      | then-exponent-gt-LAST_EXPONENT-via-else-exponent-gt-LAST_EXPONENT+then-bits-exponent w ↦
          w.if-bits-exponent.true (power.value ∙ (ap (λ k. 2 ^ k) (sym zeros) ∙ sym (one_shl _ 64 (omega arith))))
    ]
