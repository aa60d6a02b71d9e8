use Rattle.std.proofs.Common.{ℕ, List, ◌≡◌, ◌≤◌, ◌++◌, drop}
use Rattle.ctf_class.specs.Records.{Slot, AreBranches, IsElement, IsPlanned}
use Rattle.ctf_class.specs.declared.class.Class.{Class}
use Rattle.ctf_class.specs.declared.record_plan.PlannedRun.{PlannedRun}
use Rattle.ctf_class.specs.declared.route.Route.{Route}
use Rattle.ctf_decode.specs.declared.scopes.TheConstants.{MOST_VALUES}
use Rattle.ctf_format.specs.Branches.{PassesSlots}
use Rattle.ctf_format.specs.Kept.{Within}
use Rattle.ctf_format.proofs.BranchesLemmas.{PassesGoing}
use Rattle.ctf_format.proofs.passed_branches.+branches.Given as goal

abbrev pub invariant-pass_branches-loop-branch : goal.invariant-pass_branches-loop-branch
invariant-pass_branches-loop-branch l = record {
  within : l.reach.place ≤ l.packet.end;
  few : l.reach.more ≤ MOST_VALUES;
  passes : (depth : ℕ) (slots : List Slot) (runs : List PlannedRun) → AreBranches (IsPlanned depth) slots l.branches runs → (done others : List Slot) × (slots ≡ done ++ others) × AreBranches (IsPlanned depth) others (drop l.branch-index l.branches) runs × PassesSlots done l.packet l.fn.from l.fn.kept.numbers l.reach l.kept.numbers;
}

abbrev pub invariant-pass_planned_row-loop-i : goal.invariant-pass_planned_row-loop-i
invariant-pass_planned_row-loop-i l = record {
  within : l.at ≤ l.packet.end;
  few : l.more ≤ MOST_VALUES;
  begun : l.i ≡ 0 → l.at ≡ l.place;
  none : l.i ≡ 0 → l.more ≡ 0;
  kept : l.kept.numbers ≡ l.fn.kept.numbers;
  going : (depth : ℕ) (known : List Route) (k : Class) → IsElement (IsPlanned depth) known k l.plan → PassesGoing (Within known l.fn.kept.numbers) k l.count l.packet l.place l.i l.at l.more;
}
