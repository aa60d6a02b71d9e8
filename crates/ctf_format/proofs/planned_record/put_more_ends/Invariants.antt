use Rattle.ctf_class.specs.Records.{ends}
use Rattle.ctf_format.specs.Put.{IsPut}
use Rattle.ctf_format.proofs.planned_record.put_more_ends.Given as goal

abbrev pub invariant-loop-i : goal.invariant-loop-i
invariant-loop-i l = record {
  put : IsPut l.fn.buffer l.at (ends l.i) l.buffer l.text;
}
