use Rattle.std.proofs.Common.{ℕ, List, ◌≡◌, ◌≤◌, ◌++◌, take, drop}
use Rattle.ctf_class.specs.Records.{Slot, AreBranches, IsElement, IsPlanned}
use Rattle.ctf_class.specs.declared.class.Class.{Class}
use Rattle.ctf_class.specs.declared.record_plan.PlannedRun.{PlannedRun}
use Rattle.ctf_class.specs.declared.route.Route.{Route}
use Rattle.ctf_decode.specs.Views.{form}
use Rattle.ctf_decode.specs.declared.scopes.TheConstants.{MOST_VALUES}
use Rattle.ctf_format.specs.Branches.{come}
use Rattle.ctf_format.specs.Kept.{PutsSlots, Within}
use Rattle.ctf_format.specs.Put.{IsWithin}
use Rattle.ctf_format.specs.Texts.{value_text}
use Rattle.ctf_format.proofs.ElementsLemmas.{Going}
use Rattle.ctf_format.proofs.StandingLemmas.{mark_at}
use Rattle.ctf_format.proofs.branches.+branches.Given as goal

abbrev pub invariant-put_branches-loop-branch : goal.invariant-put_branches-loop-branch
invariant-put_branches-loop-branch l = record {
  within : IsWithin l.packet l.at.place l.buffer l.at.text;
  few : l.at.more ≤ MOST_VALUES;
  puts : (depth : ℕ) (slots : List Slot) (runs : List PlannedRun) → AreBranches (IsPlanned depth) slots l.branches runs → (done others : List Slot) × (slots ≡ done ++ others) × AreBranches (IsPlanned depth) others (drop l.branch-index l.branches) runs × PutsSlots done l.packet.bytes.now l.packet.end (come l.fn.from (take l.fn.from.text l.fn.buffer.items)) l.fn.kept.numbers (come l.at (take l.at.text l.buffer.items)) l.kept.numbers;
}

abbrev pub invariant-put_planned_row-loop-i : goal.invariant-put_planned_row-loop-i
invariant-put_planned_row-loop-i l = record {
  within : IsWithin l.fn.from.packet.now l.at.place l.buffer l.at.text;
  few : l.at.more ≤ MOST_VALUES;
  kept : l.kept.numbers ≡ l.fn.kept.numbers;
  marked : l.mark ≡ mark_at 91 l.i;
  going : (depth : ℕ) (known : List Route) (k : Class) → IsElement (IsPlanned depth) known k l.plan → Going (Within known l.fn.kept.numbers) l.fn.from.packet.now.bytes.now l.fn.from.packet.now.end (form k) (value_text k) l.count l.fn.from.place l.i l.at.place l.at.more (take l.fn.from.text l.fn.buffer.items) (take l.at.text l.buffer.items);
}
