use Rattle.std.proofs.Common.{rules}
use Rattle.ctf_merge.proofs.Nodes.{started, started_turns}
use Rattle.ctf_merge.proofs.turns.TournamentTree.new.Goals as goal

pub invariant_of-result : goal.invariant_of-result
invariant_of-result c = started c.args.count c.in-Some.places c.resize.new.self.items c.in-Some.ensures.1 (search rules)

pub returns-in-Ok : goal.returns-in-Ok
returns-in-Ok c = started_turns c.args.count c.in-Some.places c.resize.new.self.items c.in-Some.ensures.1 (search rules)
