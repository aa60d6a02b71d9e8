use Rattle.ctf_class.specs.LabelSearch.{span_in}
use Rattle.ctf_class.proofs.LabelsLemmas.{Ordered}
use Rattle.ctf_class.proofs.apart.are_apart.Given as goal

abbrev pub invariant-loop-rank : goal.invariant-loop-rank
invariant-loop-rank l = Ordered (span_in l.labels l.order) l.rank l.before
