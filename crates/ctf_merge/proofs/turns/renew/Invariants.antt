use Rattle.std.proofs.Common.{◌≡◌, ◌+◌, ◌/◌, ◌<◌, drop, set}
use Rattle.ctf_merge.specs.Trees.{IsTreeBut}
use Rattle.ctf_merge.proofs.turns.renew.Given as goal

-- but for the node above this place each node is the lesser of the two below it
abbrev pub invariant-loop-place : goal.invariant-loop-place
invariant-loop-place l = record {
  tree : IsTreeBut (l.place / 2) l.leaves l.nodes;
  kept : drop l.leaves l.nodes ≡ set (drop l.leaves l.fn.nodes) l.number l.key;
  within : l.place < l.leaves + l.leaves;
}

abbrev pub decreases-loop-place : goal.decreases-loop-place
decreases-loop-place l = l.place
