use Rattle.ctf_merge.proofs.Lining.{LinedUpTo}
use Rattle.ctf_merge.proofs.merge.line_up_each.Given as goal

abbrev pub invariant-loop-number : goal.invariant-loop-number
invariant-loop-number g l = LinedUpTo l.number l.readers l.turns
