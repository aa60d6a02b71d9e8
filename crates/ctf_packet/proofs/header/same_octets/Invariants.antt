use Rattle.std.proofs.Common.{◌≡◌, drop}
use Rattle.ctf_packet.proofs.Octets.{same}
use Rattle.ctf_packet.proofs.header.same_octets.Given as goal

abbrev pub invariant-loop-i : goal.invariant-loop-i
invariant-loop-i l = same (drop l.i l.elements) (drop l.i l.bytes) ≡ same l.elements l.bytes
