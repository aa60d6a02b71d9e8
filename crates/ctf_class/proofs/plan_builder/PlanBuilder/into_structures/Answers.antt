use Rattle.std.proofs.Common.{◌≡◌, sym, subst, rules}
use Rattle.ctf_class.specs.Records.{IsStructure, have_special}
use Rattle.ctf_class.proofs.RecordsLemmas.{structure_made}
use Rattle.ctf_class.proofs.plan_builder.PlanBuilder.into_structures.Goals as goal

pub returns-clause-is : goal.returns-clause-is
returns-clause-is c = λ k ms is some count begins whole made.
    let m = c.args.self in
    let special : c.have_special.result ≡ have_special m.numbers = search rules in
    subst (λ b. IsStructure k (record { align = m.align; numbers = m.numbers; has_special = b; span = m.span; room = m.room; count = c.args.count; many = c.args.many })) (sym special) (structure_made k ms m c.args.count c.args.many is some count c.requires.bare c.requires.alone begins whole made)
