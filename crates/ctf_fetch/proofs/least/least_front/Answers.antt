use Rattle.std.proofs.Common.{arith}
use Rattle.ctf_fetch.proofs.Fronts.{front_takes}
use Rattle.ctf_fetch.proofs.least.least_front.Goals as goal

pub returns-clause-takes : goal.returns-clause-takes
returns-clause-takes c =
    let most = c.min.ensures in
    front_takes c.args.trace.now c.bits_of_scope-header.result c.bits_of_context-context.result _ (rw c.packet_header.ensures at c.bits_of_scope-header.ensures.takes) c.bits_of_context-context.ensures.takes (omega (arith, most))
