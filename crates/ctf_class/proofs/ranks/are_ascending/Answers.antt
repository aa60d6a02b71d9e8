use Rattle.std.proofs.Common.{below_more, arith, rules}
use Rattle.ctf_class.specs.NameRanks.{IsNext}
use Rattle.ctf_class.proofs.RanksLemmas.{ascending-all}
use Rattle.ctf_class.proofs.ranks.are_ascending.Goals as goal

pub loop-rank-preserved : goal.loop-rank-preserved
loop-rank-preserved c =
    below_more (IsNext c.args.names.now c.args.order.now) c.loop-rank.rank c.loop-rank.invariant (c.is_next.ensures (search rules))

pub returns : goal.returns
returns c = λ _. ascending-all c.args.names.now c.args.order.now c.loop-rank.rank (omega arith) c.loop-rank.invariant
