use Rattle.std.proofs.Common.{List, ◌≤◌, drop}
use Rattle.ctf_class.specs.Records.{Slot, AreRuns}
use Rattle.ctf_decode.specs.declared.scopes.TheConstants.{MOST_VALUES}
use Rattle.ctf_format.specs.Passing.{PassesFields}
use Rattle.ctf_format.proofs.passed_record.pass_runs.Given as goal

abbrev pub invariant-loop-run : goal.invariant-loop-run
invariant-loop-run l = record {
  within : l.reach.place ≤ l.packet.end;
  few : l.reach.more ≤ MOST_VALUES;
  passes : (slots : List Slot) → AreRuns slots l.runs → (others : List Slot) × AreRuns others (drop l.run-index l.runs) × PassesFields slots others l.packet l.fn.from l.reach;
}
