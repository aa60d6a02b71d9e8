use Rattle.std.proofs.Common.{subst}
use Rattle.ctf_class.specs.Records.{IsLength}
use Rattle.ctf_format.proofs.RecordsLemmas.{counts_fixed, counts_number}
use Rattle.ctf_format.proofs.planned_record.count_after.Goals as goal

pub returns-in-Fixed : goal.returns-in-Fixed
returns-in-Fixed c = λ index length_is is. counts_fixed c.args.placed index c.in-Fixed.count length_is (subst (IsLength index length_is) c.in-Fixed.is is)

pub returns-in-Counted : goal.returns-in-Counted
returns-in-Counted c = λ index length_is is. counts_number c.args.placed index length_is c.last_number.result (subst (IsLength index length_is) c.in-Counted.is is) c.last_number.ensures
