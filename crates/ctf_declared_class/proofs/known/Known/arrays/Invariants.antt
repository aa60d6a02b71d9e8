use Rattle.std.proofs.Common.{◌≡◌, ◌≤◌, length, take}
use Rattle.ctf_meaning.specs.Shapes as plain
use Rattle.ctf_declared_class.specs.Knowns.{known}
use Rattle.ctf_declared_class.proofs.known.Known.arrays.Given as goal

abbrev pub invariant-loop-left : goal.invariant-loop-left
invariant-loop-left l = record {
  within : l.left ≤ length l.lengths;
  made : plain.arrays (take l.left l.lengths) (known l.known) ≡ plain.arrays l.lengths (known l.self);
}

abbrev pub decreases-loop-left : goal.decreases-loop-left
decreases-loop-left l = l.left
