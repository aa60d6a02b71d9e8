use Rattle.std.proofs.Common.{◌≡◌, ◌-◌, ◌≤◌, [], map, take, drop, length}
use Rattle.ctf_decode.specs.Forms.{parts_of}
use Rattle.ctf_decode.specs.Views.{form, member_part, val, env, input}
use Rattle.ctf_decode.specs.Walk.{walk, walk_members, repeat}
use Rattle.ctf_decode.specs.declared.scopes.TheConstants.{MOST_VALUES}
use Rattle.ctf_decode.proofs.walk.+walk.Given as goal

abbrev pub invariant-members_from-loop-i : goal.invariant-members_from-loop-i
invariant-members_from-loop-i l = record {
  kept : length l.values ≡ length l.members;
  walked : walk_members (parts_of (map member_part (drop l.i l.members))) (input l.around.packet) (env l.around.frame.now) (map val (take l.i l.values)) l.at.end l.at.spent ≡ walk_members (parts_of (map member_part (drop l.first l.members))) (input l.around.packet) (env l.around.frame.now) (map val (take l.first l.initial.values)) l.initial.at.end l.initial.at.spent;
  within : l.at.end ≤ l.around.packet.content;
  few : l.at.spent ≤ MOST_VALUES;
}

abbrev pub invariant-elements_into-loop-i : goal.invariant-elements_into-loop-i
invariant-elements_into-loop-i l = record {
  room : l.i ≤ length l.values.items;
  walked : repeat (walk (form l.element) (input l.around.packet) (env l.around.frame.now)) (l.count - l.i) (map val (take l.i l.values.items)) l.at.end l.at.spent ≡ repeat (walk (form l.element) (input l.around.packet) (env l.around.frame.now)) l.count [] l.initial.at.end l.initial.at.spent;
  within : l.at.end ≤ l.around.packet.content;
  few : l.at.spent ≤ MOST_VALUES;
}
