use Rattle.std.proofs.Common.{◌≡◌, [], replicate}
use Rattle.ctf_types.proofs.gather.empty_lists.Given as goal

abbrev pub invariant-loop : goal.invariant-loop
invariant-loop l = l.lists ≡ replicate l.counter []
