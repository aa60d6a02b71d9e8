use Rattle.std.proofs.Common.{ap, sym, ◌∙◌}
use Rattle.ctf_class.specs.declared.class.Class.{Class}
use Rattle.ctf_clock.specs.Clock.{advanced_by}
use Rattle.ctf_packet.proofs.Moving.{structure_moves}
use Rattle.ctf_packet.proofs.moves.set_by_scope.Goals as goal

pub returns-in-Structure : goal.returns-in-Structure
returns-in-Structure c =
    let is = ap (λ (class : Class). class.kind) (sym c.class-whole.ensures) ∙ c.in-Structure.is in
    let moves = structure_moves c.args.class.now c.clock_members.result.now c.in-Structure.members c.args.value.now c.members_in.result.now is c.clock_members.ensures c.members_in.ensures in
    c.set_by_members.ensures ∙ ap (advanced_by c.args.timeline.now c.args.told.now.clock) moves
