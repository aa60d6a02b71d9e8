use Rattle.std.proofs.Common.{List, ◌≡◌, ◌∷◌, ◌++◌, ◌∙◌, [], Bool, None, ap, rules}
use Rattle.ctf_class.specs.Records.{have_special}
use Rattle.ctf_class.specs.declared.record_plan.Branches.TheVariants as branches
use Rattle.ctf_class.specs.declared.planned_number.PlannedNumber.{PlannedNumber}
use Rattle.ctf_class.specs.declared.record_plan.PlannedRun.{PlannedRun}
use Rattle.ctf_class.proofs.RecordsLemmas.{planned, planned_whole}
use Rattle.ctf_class.proofs.plan_builder.PlanBuilder.finish.Goals as goal

pub returns-clause-fields : goal.returns-clause-fields
returns-clause-fields c = λ done made.
    let m = c.args.self in
    let special : c.have_special.result ≡ have_special m.numbers = search rules in
    let run : Bool → List PlannedNumber → PlannedRun = λ b ns. record { align = m.align; numbers = ns; has_special = b; span = m.span; room = m.room; field = None } in
    let runs = c.fitted-3.ensures ∙ c.in_ok-push.ensures.ok ∙ (λ j. m.runs ++ run (special j) (c.fitted-2.ensures j) ∷ []) in
    planned done m (record { given = c.args.given; branches = branches.Listed c.fitted.result; runs = c.fitted-3.result; count = m.count; ended = m.ended }) (ap branches.Listed c.fitted.ensures) runs made

pub returns-then-not-is_empty-clause-fields : goal.returns-then-not-is_empty-clause-fields
returns-then-not-is_empty-clause-fields c = λ done made.
    let m = c.args.self in
    planned_whole done m (record { given = c.args.given; branches = branches.Listed c.fitted.result; runs = c.fitted-then-not-is_empty.result; count = m.count; ended = m.ended }) (ap branches.Listed c.fitted.ensures) c.fitted-then-not-is_empty.ensures (search rules) made
