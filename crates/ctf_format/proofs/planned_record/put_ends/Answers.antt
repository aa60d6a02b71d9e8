use Rattle.std.proofs.Common.{◌++◌, ap, sym, ◌∙◌}
use Rattle.ctf_class.specs.Records.{ends}
use Rattle.ctf_format.proofs.planned_record.put_ends.Goals as goal

pub returns-then-ended-eq1-clause-puts : goal.returns-then-ended-eq1-clause-puts
returns-then-ended-eq1-clause-puts c = λ line wrote. wrote ∙ ap (λ n. line ++ ends n) (sym c.if-ended-eq1.true)
