use Rattle.std.proofs.Common.{sym}
use Rattle.std.proofs.lemmas.Fmt.{decimal_digit}
use Rattle.ctf_timestamp.proofs.Putting.{put_as}
use Rattle.ctf_timestamp.proofs.digits.put_decimal.Goals as goal

pub returns-then-number-lt10-clause-put : goal.returns-then-number-lt10-clause-put
returns-then-number-lt10-clause-put c = put_as c.put_byte.ensures (sym (decimal_digit c.args.number c.if-number-lt10.true))
