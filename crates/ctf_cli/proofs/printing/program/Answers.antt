use Rattle.std.proofs.Common.{refl}
use Rattle.ctf_cli.specs.Ends.{asked, bad}
use Rattle.ctf_cli.proofs.printing.program.Goals as goal

pub returns-in-Ok-clause-ends : goal.returns-in-Ok-clause-ends
returns-in-Ok-clause-ends g c = λ tells out_tells err_tells. asked c.in-Ok.options c.in-Ok.ensures (c.print.ensures.ends tells out_tells err_tells)

pub returns-in-Err-Bad-clause-ends : goal.returns-in-Err-Bad-clause-ends
returns-in-Err-Bad-clause-ends g c = λ tells out_tells err_tells. bad (rw c.in-Err-Bad.field-0-is at c.in-Err-Bad.ensures) (record {
  untouched = refl;
  says = rw c.text.ensures at (c.say.ensures.says err_tells);
  status_is = c.say.ensures.status;
})
