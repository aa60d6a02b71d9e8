use Rattle.std.proofs.Common.{◌≡◌, ◌+◌, ◌≤◌, [], ℕ, length, map, take, drop}
use Rattle.ctf_decode.specs.Forms.{parts_of}
use Rattle.ctf_decode.specs.Input.{Env}
use Rattle.ctf_decode.specs.Views.{member_part, val, input}
use Rattle.ctf_decode.specs.Walk.{walk_members}
use Rattle.ctf_decode.specs.declared.scopes.TheConstants.{MOST_VALUES}
use Rattle.ctf_decode.proofs.plain.plain_run.Given as goal

abbrev pub invariant-loop-i : goal.invariant-loop-i
invariant-loop-i l = record {
  kept : length l.values ≡ length l.members;
  walked : (around : Env) (spent : ℕ) → spent + length l.members ≤ MOST_VALUES → walk_members (parts_of (map member_part (drop l.i l.members))) (input l.packet) around (map val (take l.i l.values)) l.end (spent + l.i) ≡ walk_members (parts_of (map member_part l.members)) (input l.packet) around [] l.initial.end spent;
  within : l.end ≤ l.packet.content;
}
