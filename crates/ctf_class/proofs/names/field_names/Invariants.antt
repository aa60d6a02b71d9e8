use Rattle.std.proofs.Common.{◌≡◌}
use Rattle.ctf_class.proofs.names.field_names.Given as goal

abbrev pub invariant-loop-word : goal.invariant-loop-word
invariant-loop-word l = l.names.items ≡ l.yielded
