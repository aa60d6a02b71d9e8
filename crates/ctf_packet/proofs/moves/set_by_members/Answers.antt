use Rattle.std.proofs.Common.{◌∙◌}
use Rattle.ctf_packet.proofs.Moving.{members_next, members_stop}
use Rattle.ctf_packet.proofs.moves.set_by_members.Goals as goal

pub returns-then-not-set_by_member : goal.returns-then-not-set_by_member
returns-then-not-set_by_member c =
    members_stop c.args.timeline.now c.loop-i.told.clock c.args.members.now c.args.values.now c.loop-i.i c.index-members-i.result c.index-values-i.result c.loop-i-test.true c.if-i-values.false c.index-members-i.is c.index-values-i.is c.if-not-set_by_member.ensures ∙ c.loop-i.invariant

pub loop-i-preserved : goal.loop-i-preserved
loop-i-preserved c =
    members_next c.args.timeline.now c.loop-i.told.clock c.set_by_member.new.told.clock c.args.members.now c.args.values.now c.loop-i.i c.index-members-i.result c.index-values-i.result c.loop-i-test.true c.if-i-values.false c.index-members-i.is c.index-values-i.is c.if-not-set_by_member.ensures ∙ c.loop-i.invariant
