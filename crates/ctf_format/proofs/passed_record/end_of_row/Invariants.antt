use Rattle.std.proofs.Common.{◌≡◌, ◌≤◌}
use Rattle.ctf_class.specs.declared.class.Class.{Class}
use Rattle.ctf_format.specs.Passing.{IsElement}
use Rattle.ctf_format.proofs.PassingLemmas.{going}
use Rattle.ctf_format.proofs.passed_record.end_of_row.Given as goal

abbrev pub invariant-loop-i : goal.invariant-loop-i
invariant-loop-i l = record {
  within : l.place ≤ l.packet.end;
  begun : l.i ≡ 0 → l.place ≡ l.from;
  going : (k : Class) (is : IsElement l.packet l.element k) → going l.packet l.element k is l.count l.from l.i l.place;
}
