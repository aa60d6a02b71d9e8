use Rattle.std.proofs.Common.{◌-◌, ◌<◌, ◌++◌, ap, ◌∙◌, arith}
use Rattle.std.proofs.lemmas.Option.{IfSome_then}
use Rattle.ctf_class.specs.Records.{ends}
use Rattle.ctf_format.proofs.RecordsLemmas.{brace_more}
use Rattle.ctf_format.proofs.planned_record.put_other_ends.Goals as goal

pub returns-clause-puts : goal.returns-clause-puts
returns-clause-puts c = λ line wrote.
    let n = c.args.ended in
    let some : 0 < n = omega (arith, c.if-ended-eq0.false) in
    IfSome_then c.put_more_ends.result c.put_more_ends.ensures (λ text put. put.text ∙ ap (λ xs. xs ++ ends (n - 1)) wrote ∙ brace_more n line some)
