use Rattle.ctf_fetch.proofs.packet_start.PacketStart.header.Goals as goal

pub returns-in-Some-clause-finds : goal.returns-in-Some-clause-finds
returns-in-Some-clause-finds g c = rw c.as_slice.ensures at c.in-Some.ensures.finds
