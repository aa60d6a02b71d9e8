use Rattle.std.proofs.Common.{◌≡◌, take}
use Rattle.ctf_class.proofs.front_class.hidden_in.Given as goal
use Rattle.ctf_class.specs.Fronts.{are_of_packet}

abbrev pub invariant-loop-member : goal.invariant-loop-member
invariant-loop-member l = l.hidden ≡ are_of_packet (take l.member-index l.members)
