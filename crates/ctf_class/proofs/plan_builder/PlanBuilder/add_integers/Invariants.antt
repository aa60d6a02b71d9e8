use Rattle.std.proofs.Common.{◌≡◌, ◌^◌, ◌≤◌, ◌∷◌, [], List, ◌++◌, take}
use Rattle.ctf_class.specs.PlanBuilding.{IsMade}
use Rattle.ctf_class.specs.Records.{Slot, all_alone, first_at, pieces_slots}
use Rattle.ctf_class.proofs.RecordsLemmas.{after_pieces}
use Rattle.ctf_class.proofs.plan_builder.PlanBuilder.add_integers.Given as goal

abbrev pub invariant-loop-i : goal.invariant-loop-i
invariant-loop-i l = record {
  few : l.self.room ≤ 2 ^ 18;
  near : l.self.span ≤ 2 ^ 33;
  branches : l.self.branches ≡ l.fn.self.branches;
  runs : l.self.runs ≡ l.fn.self.runs;
  comes : after_pieces 0 (first_at (123 ∷ 32 ∷ []) l.fn.begin []) (all_alone (take l.i l.members)) ≡ record { lead = l.text; align = l.align; index = l.i; known = [] };
  made : (done : List Slot) → IsMade done l.fn.self → IsMade (done ++ pieces_slots 0 (first_at (123 ∷ 32 ∷ []) l.fn.begin []) (all_alone (take l.i l.members))) l.self;
}
