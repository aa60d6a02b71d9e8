use Rattle.std.proofs.Common.{List, ◌≡◌, ◌≤◌, ◌++◌, take, drop}
use Rattle.ctf_class.specs.Records.{Slot, AreRuns}
use Rattle.ctf_decode.specs.declared.scopes.TheConstants.{MOST_VALUES}
use Rattle.ctf_format.specs.Put.{IsWithin}
use Rattle.ctf_format.specs.Records.{PutsFields, reached}
use Rattle.ctf_format.proofs.planned_record.put_runs.Given as goal

abbrev pub invariant-loop-run : goal.invariant-loop-run
invariant-loop-run l = record {
  within : IsWithin l.packet l.so_far.place l.buffer l.text;
  few : l.so_far.more ≤ MOST_VALUES;
  puts : (slots : List Slot) → AreRuns slots l.runs → (done others : List Slot) × (slots ≡ done ++ others) × AreRuns others (drop l.run-index l.runs) × PutsFields done l.packet.bytes.now l.packet.end (reached l.fn.reach (take l.at l.fn.buffer.items)) (reached l.so_far (take l.text l.buffer.items));
}
