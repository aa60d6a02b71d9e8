use Rattle.std.proofs.Common.{ℕ, ◌+◌, ◌≤◌, drop}
use Rattle.ctf_packet.specs.Scopes.{longest}
use Rattle.ctf_fetch.specs.Demand.{MembersTake}
use Rattle.ctf_fetch.proofs.least.+least.Given as goal

abbrev pub invariant-bits_of_structure-loop-member : goal.invariant-bits_of_structure-loop-member
invariant-bits_of_structure-loop-member l = record {
  bounded : l.bits ≤ longest;
  taken : (n : ℕ) → MembersTake (drop l.member-index l.members) n → MembersTake l.members (l.bits + n);
}
