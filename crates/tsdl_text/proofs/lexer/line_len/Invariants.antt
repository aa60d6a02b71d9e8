use Rattle.std.proofs.Common.{◌-◌, ◌==◌, not, length}
use Rattle.tsdl_text.proofs.Digits.{RunTo}
use Rattle.tsdl_text.proofs.lexer.line_len.Given as goal

abbrev pub invariant-loop-len : goal.invariant-loop-len
invariant-loop-len l = RunTo (λ b. not (b == 10)) l.text l.len

abbrev pub decreases-loop-len : goal.decreases-loop-len
decreases-loop-len l = length l.text - l.len
