use Rattle.std.proofs.Common.{ℕ, [], ◌-◌, ◌<◌, ◌⊎◌, length, get_or}
use Rattle.ctf_class.specs.LabelSearch.{AreApart, InLayers}
use Rattle.ctf_class.specs.Ranks.{Holds}
use Rattle.ctf_class.proofs.layers.layers_of.Given as goal

abbrev pub invariant-loop-alloc : goal.invariant-loop-alloc
invariant-loop-alloc l = record {
  apart : (i : ℕ) → i < length l.layers → AreApart l.labels (get_or l.layers i []) (length (get_or l.layers i []));
  all : (place : ℕ) → place < length l.labels → InLayers l.layers place ⊎ Holds l.left place;
}

abbrev pub decreases-loop-alloc : goal.decreases-loop-alloc
decreases-loop-alloc l = 8 - length l.layers
