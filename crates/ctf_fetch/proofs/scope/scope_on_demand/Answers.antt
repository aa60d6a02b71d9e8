use Rattle.std.proofs.Common.{◌++◌, ap}
use Rattle.ctf_packet.specs.Packets.{front}
use Rattle.ctf_packet.specs.Views.{values_of}
use Rattle.ctf_packet.proofs.Standing.{form_of}
use Rattle.ctf_packet_demand.proofs.Asking.{at_none}
use Rattle.ctf_fetch.proofs.scope.scope_on_demand.Goals as goal

pub returns-in-None-clause-puts : goal.returns-in-None-clause-puts
returns-in-None-clause-puts g c = λ more.
    let next = c.args.next.now in
    at_none (form_of next.class) (front (c.args.intake.now.buffer.now ++ more) (values_of c.args.scopes.now)) next.scope c.args.scopes.now c.leave.new.self next.end (ap form_of c.in-None.is) c.leave.ensures

pub returns-in-None-scope_at_hand-clause-puts : goal.returns-in-None-scope_at_hand-clause-puts
returns-in-None-scope_at_hand-clause-puts g c = λ more. rw c.in-None-scope_at_hand.ensures.none at (c.class_on_demand.ensures.puts more)

pub returns-in-None-scope_at_hand-clause-faulty : goal.returns-in-None-scope_at_hand-clause-faulty
returns-in-None-scope_at_hand-clause-faulty g c = λ tells. rw c.in-None-scope_at_hand.ensures.none at (c.class_on_demand.ensures.faulty tells)
