use Rattle.ctf_class.proofs.LayersLemmas.{Nearest}
use Rattle.ctf_class.proofs.layers.next_covering.Given as goal

abbrev pub invariant-loop-layer : goal.invariant-loop-layer
invariant-loop-layer l = Nearest l.labels l.layers l.number l.begin l.layer-index l.next
