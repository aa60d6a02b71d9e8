use Rattle.std.proofs.Common.{length, ◌≤◌, drop}
use Rattle.std.specs.List.{All}
use Rattle.ctf_class.specs.Fronts.{SetsNoClock}
use Rattle.ctf_class.specs.declared.class.Member.{Member}
use Rattle.ctf_class.proofs.front_class.clock_count_in.Given as goal

abbrev pub invariant-loop-count : goal.invariant-loop-count
invariant-loop-count l = record {
  within : l.count ≤ length l.members;
  none : All (λ (m : Member). SetsNoClock m.class) (drop l.count l.members);
}

abbrev pub decreases-loop-count : goal.decreases-loop-count
decreases-loop-count l = l.count
