use Rattle.std.proofs.Common.{◌∙◌}
use Rattle.ctf_session.proofs.Printed.{printed_line}
use Rattle.ctf_session.proofs.printing.print.Goals as goal

pub returns-in-Event-clause-prints : goal.returns-in-Event-clause-prints
returns-in-Event-clause-prints g c = λ out err trace name end length of.
    let line = rw c.in-Event.is at (c.text.ensures ∙ c.in-Ok.ensures.line trace name end length of) in
    rw (c.in-Event.is, c.stop_of.ensures) (printed_line c.put_all.result c.text.result.now _ _ _ _ _ line (c.put_all.ensures.all out) (c.put_all.ensures.part out))

pub returns-in-Discarded-clause-prints : goal.returns-in-Discarded-clause-prints
returns-in-Discarded-clause-prints g c = λ out err trace name end length of.
    let line = rw c.in-Discarded.is at (c.text-in-Discarded.ensures ∙ c.in-Ok.ensures.line trace name end length of) in
    rw (c.in-Discarded.is, ← line) (c.say.ensures.prints out err)

pub returns-in-Lost-clause-prints : goal.returns-in-Lost-clause-prints
returns-in-Lost-clause-prints g c = λ out err trace name end length of.
    let line = rw c.in-Lost.is at (c.text-in-Lost.ensures ∙ c.in-Ok.ensures.line trace name end length of) in
    rw (c.in-Lost.is, ← line) (c.say-in-Lost.ensures.prints out err)
