use Rattle.std.proofs.Common.{◌≡◌, ◌++◌}
use Rattle.ctf_types.specs.Gathered.{joined_all}
use Rattle.ctf_types.proofs.resolving.join_events.Given as goal

abbrev pub invariant-loop-head : goal.invariant-loop-head
invariant-loop-head l = l.streams ++ joined_all l.head-iterator.a.rest.items l.head-iterator.b.rest.items ≡ joined_all l.fn.heads l.fn.events
