use Rattle.std.proofs.Common.{◌≡◌, ◌+◌, ◌*◌, ◌-◌, ◌≤◌, ◌++◌, [], length, drop, map, ℕ, List}
use Rattle.std.specs.Prelude.{min, max}
use Rattle.ctf_decode.specs.Forms.{parts_of}
use Rattle.ctf_decode.specs.Views.{form, member_part, val, env}
use Rattle.ctf_decode.specs.Walk.{walk, walk_members, repeat}
use Rattle.ctf_packet.specs.Scopes.{longest}
use Rattle.ctf_fetch.specs.Demand.{input_at}
use Rattle.ctf_fetch.specs.Fetching.{longest_bytes}
use Rattle.ctf_fetch.specs.Keeping.{Keeps}
use Rattle.ctf_fetch.proofs.demand.+demand.Given as goal

abbrev pub invariant-members_on_demand-loop-member : goal.invariant-members_on_demand-loop-member
invariant-members_on_demand-loop-member g l = record {
  keeps : Keeps g.S.Source l.initial.intake l.intake;
  few : length l.intake.buffer.now ≤ longest_bytes;
  within : l.end ≤ min (8 * length l.intake.buffer.now) longest;
  forward : l.place.end ≤ l.end;
  near : 8 * length l.intake.buffer.now ≤ max (8 * length l.initial.intake.buffer.now) (l.end + 7);
  walked : (more : List ℕ) → walk_members (parts_of (map member_part (drop l.member-index l.members))) (input_at l.place (l.intake.buffer.now ++ more)) (env l.place.frame.now) (map val l.values) l.end l.spent ≡ walk_members (parts_of (map member_part l.members)) (input_at l.place (l.intake.buffer.now ++ more)) (env l.place.frame.now) [] l.place.end l.place.spent;
}

abbrev pub invariant-elements_on_demand-loop-more : goal.invariant-elements_on_demand-loop-more
invariant-elements_on_demand-loop-more g l = record {
  keeps : Keeps g.S.Source l.initial.intake l.intake;
  few : length l.intake.buffer.now ≤ longest_bytes;
  within : l.end ≤ min (8 * length l.intake.buffer.now) longest;
  forward : l.place.end ≤ l.end;
  near : 8 * length l.intake.buffer.now ≤ max (8 * length l.initial.intake.buffer.now) (l.end + 7);
  walked : (more : List ℕ) → repeat (walk (form l.element) (input_at l.place (l.intake.buffer.now ++ more)) (env l.place.frame.now)) (l.count - l._more) (map val l.values) l.end l.spent ≡ repeat (walk (form l.element) (input_at l.place (l.intake.buffer.now ++ more)) (env l.place.frame.now)) l.count [] l.place.end l.place.spent;
}
