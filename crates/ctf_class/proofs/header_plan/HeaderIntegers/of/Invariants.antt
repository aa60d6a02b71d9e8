use Rattle.std.proofs.Common.{◌≡◌, drop}
use Rattle.ctf_class.specs.HeaderPlans.{AreLaid, AreNear, no_integers}
use Rattle.ctf_class.specs.declared.header_plan.HeaderIntegers.{HeaderIntegers}
use Rattle.ctf_class.proofs.header_plan.HeaderIntegers.of.Given as goal

abbrev pub invariant-loop-member : goal.invariant-loop-member
invariant-loop-member l = record {
  near : AreNear l.integers;
  skipped : l.integers.skipped ≡ l.fn.skipped;
  laid : (end : HeaderIntegers) → AreLaid (drop l.member-index l.member-items) l.integers end → AreLaid l.member-items (no_integers l.fn.class.align l.fn.skipped l.fn.values) end;
}
