use Rattle.std.proofs.Common.{ℕ, ◌<◌}
use Rattle.ctf_class.specs.NameRanks.{IsNext}
use Rattle.ctf_class.proofs.ranks.are_ascending.Given as goal

abbrev pub invariant-loop-rank : goal.invariant-loop-rank
invariant-loop-rank l = (k : ℕ) → k < l.rank → IsNext l.names l.order k
