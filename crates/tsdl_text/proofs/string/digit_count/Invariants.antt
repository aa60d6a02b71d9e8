use Rattle.std.proofs.Common.{◌-◌}
use Rattle.tsdl_text.proofs.Digits.{Counted}
use Rattle.tsdl_text.proofs.string.digit_count.Given as goal

abbrev pub invariant-loop-count : goal.invariant-loop-count
invariant-loop-count l = Counted l.base l.most l.text l.count

abbrev pub decreases-loop-count : goal.decreases-loop-count
decreases-loop-count l = l.most - l.count
