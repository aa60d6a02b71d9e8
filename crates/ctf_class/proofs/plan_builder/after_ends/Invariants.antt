use Rattle.std.proofs.Common.{◌≡◌}
use Rattle.ctf_class.specs.Records.{ends}
use Rattle.ctf_class.proofs.plan_builder.after_ends.Given as goal

abbrev pub invariant-loop : goal.invariant-loop
invariant-loop l = record {
  written : l.lead ≡ ends l.counter;
}
