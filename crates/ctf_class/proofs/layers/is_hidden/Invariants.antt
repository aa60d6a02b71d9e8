use Rattle.ctf_class.proofs.LayersLemmas.{NoneBefore}
use Rattle.ctf_class.proofs.layers.is_hidden.Given as goal

abbrev pub invariant-loop-layer : goal.invariant-loop-layer
invariant-loop-layer l = NoneBefore l.labels l.layers l.number l.place l.layer-index
