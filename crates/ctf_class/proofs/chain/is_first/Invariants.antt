use Rattle.ctf_class.proofs.LabelsLemmas.{Walked}
use Rattle.ctf_class.proofs.chain.is_first.Given as goal

abbrev pub invariant-loop-end : goal.invariant-loop-end
invariant-loop-end l = Walked l.labels l.number l.place l.end

abbrev pub decreases-loop-end : goal.decreases-loop-end
decreases-loop-end l = l.end
