use Rattle.std.proofs.Common.{◌≡◌, ◌+◌, ◌++◌, ◌≤◌, take, drop, length}
use Rattle.std.specs.List.{flat_map}
use Rattle.ctf_class.specs.Records.{numbers_room}
use Rattle.ctf_format.specs.RunNumbers.{run_text}
use Rattle.ctf_format.proofs.planned_number.put_special_numbers.Given as goal

abbrev pub invariant-loop-number : goal.invariant-loop-number
invariant-loop-number l = record {
  room : l.text + numbers_room (drop l.number-index l.numbers) ≤ length l.line;
  near : l.text + numbers_room (drop l.number-index l.numbers) ≤ l.at + numbers_room l.numbers;
  wrote : take l.text l.line ≡ take l.at l.fn.line ++ flat_map (run_text l.bytes l.first) (take l.number-index l.numbers);
}
