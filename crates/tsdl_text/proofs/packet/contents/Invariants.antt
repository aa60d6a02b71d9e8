use Rattle.std.proofs.Common.{◌-◌, length}
use Rattle.tsdl_text.proofs.PacketLemmas.{JoinedSoFar}
use Rattle.tsdl_text.proofs.packet.contents.Given as goal

abbrev pub invariant-loop-start : goal.invariant-loop-start
invariant-loop-start l = JoinedSoFar l.order l.bytes l.start l.text.items

abbrev pub decreases-loop-start : goal.decreases-loop-start
decreases-loop-start l = length l.bytes - l.start
