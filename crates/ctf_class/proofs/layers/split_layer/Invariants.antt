use Rattle.std.proofs.Common.{ℕ, ◌<◌, ◌⊎◌, length}
use Rattle.ctf_class.specs.LabelSearch.{span_in}
use Rattle.ctf_class.specs.Ranks.{place_in, Holds}
use Rattle.ctf_class.proofs.LabelsLemmas.{Ordered}
use Rattle.ctf_class.proofs.layers.split_layer.Given as goal

abbrev pub invariant-loop-place : goal.invariant-loop-place
invariant-loop-place l = record {
  apart : Ordered (span_in l.labels l.layer) (length l.layer) l.before;
  all : (k : ℕ) → k < l.place-index → Holds l.layer (place_in l.places k) ⊎ Holds l.left (place_in l.places k);
}
