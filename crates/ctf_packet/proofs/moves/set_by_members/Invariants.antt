use Rattle.std.proofs.Common.{◌≡◌, drop}
use Rattle.ctf_clock.specs.Clock.{advanced_by}
use Rattle.ctf_packet.proofs.Moving.{members}
use Rattle.ctf_packet.proofs.moves.set_by_members.Given as goal

abbrev pub invariant-loop-i : goal.invariant-loop-i
invariant-loop-i l = advanced_by l.timeline l.told.clock (members (drop l.i l.members) (drop l.i l.values)) ≡ advanced_by l.timeline l.initial.told.clock (members l.members l.values)
