use Rattle.std.proofs.Common.{◌∙◌, sym, refl}
use Rattle.tsdl_text.proofs.PacketLemmas.{header_fault-none, begins_packet, faulty_header, faulty_sizes, Passes}
use Rattle.tsdl_text.proofs.packet.packet.Goals as goal
use Rattle.tsdl_text.proofs.packet.packet.Goals.{In_default}

passes : (c : In_default) → Passes c.args.order c.args.id.now c.args.rest.now
passes c = header_fault-none c.args.order c.args.id.now c.args.rest.now (sym c.header_fault.ensures ∙ c.in_default.is)

pub returns-in-Some : goal.returns-in-Some
returns-in-Some c = faulty_header c.args.order c.args.id.now c.args.rest.now c.in-Some.fault c.in-Some.ensures

pub ends-requires : goal.ends-requires
ends-requires c = (passes (goal.at.ends-requires c).In_default).has_header

pub returns-in-Some-ends : goal.returns-in-Some-ends
returns-in-Some-ends c =
    begins_packet c.args.order c.args.id.now c.args.rest.now _ (c.in-Some-ends.end, c.in-Some-ends.len) (passes (goal.at.returns-in-Some-ends c).In_default) c.in-Some-ends.ensures refl

pub returns-in-None : goal.returns-in-None
returns-in-None c = faulty_sizes c.args.order c.args.id.now c.args.rest.now (sym c.header_fault.ensures ∙ c.in_default.is) c.in-None.ensures
