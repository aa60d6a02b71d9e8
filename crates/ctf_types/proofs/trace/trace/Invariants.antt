use Rattle.ctf_types.proofs.First.{Passed}
use Rattle.ctf_types.proofs.trace.trace.Given as goal

abbrev pub invariant-loop-number : goal.invariant-loop-number
invariant-loop-number l = Passed l.declarations l.number
