use Rattle.std.proofs.Common.{ℕ, ◌^◌, ◌≤◌, List, take}
use Rattle.ctf_class.specs.PlanBuilding.{IsMade}
use Rattle.ctf_class.specs.Records.{Slot, AreEach, IsPlanned, first_at}
use Rattle.ctf_class.proofs.RecordsLemmas.{AddedTo}
use Rattle.ctf_class.proofs.plan_builder.PlanBuilder.+plan.Given as goal

abbrev pub invariant-add_members-loop-i : goal.invariant-add_members-loop-i
invariant-add_members-loop-i l = record {
  few : l.self.room ≤ 2 ^ 18;
  near : l.self.span ≤ 2 ^ 33;
  made : (done : List Slot) → IsMade done l.fn.self → AddedTo (first_at l.fn.first l.fn.begin l.fn.self.known) l.members l.i (record { lead = l.text; align = l.align; index = l.index; known = l.self.known }) done l.fn.self l.self;
}

abbrev pub invariant-option_plans-loop-option : goal.invariant-option_plans-loop-option
invariant-option_plans-loop-option l = (depth : ℕ) × AreEach (IsPlanned depth) l.fn.self.known (take l.option-index l.options) l.plans
