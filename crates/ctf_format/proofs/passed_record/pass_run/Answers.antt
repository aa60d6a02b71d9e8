use Rattle.std.proofs.Common.{◌≡◌, ◌+◌, ◌-◌, ℕ, Option, None, Some, ap, sym, ◌∙◌, subst, arith}
use Rattle.std.proofs.lemmas.Option.{IfSome_then}
use Rattle.ctf_class.specs.Records.{Slot}
use Rattle.ctf_class.specs.declared.record_plan.PlannedRun.{PlannedRun}
use Rattle.ctf_format.specs.Passing.{Passes, PassesFields}
use Rattle.ctf_format.specs.Records.{BeginsAt, IsLastOf, PutsField, TakesRun, after_number, reached}
use Rattle.ctf_format.specs.declared.planned_record.Reach.{Reach}
use Rattle.ctf_format.proofs.PassingLemmas.{each_field, run_alone, run_fielded}
use Rattle.ctf_format.proofs.passed_record.pass_run.Goals as goal

pub returns-in-None-clause-passes : goal.returns-in-None-clause-passes
returns-in-None-clause-passes c = λ slots others takes.
    let placed = c.in_ok-placed.placed in
    let run = placed.run.now in
    let packet = placed.packet.now in
    let is = c.in_ok-placed.ensures.run in
    let end = placed.end in
    let begins : BeginsAt c.args.from.place run (end - run.span) = subst (λ (r : PlannedRun). BeginsAt c.args.from.place r (end - r.span)) (sym is) c.in_ok-placed.ensures.begins in
    let ends : end - run.span + run.span ≡ end = omega (arith, placed.begun) in
    let none : run.field ≡ None = ap (λ (r : PlannedRun). r.field) is ∙ c.in-None.is in
    let to : Reach = record { place = end; more = c.args.from.more } in
    subst (λ p. PassesFields slots others p c.args.from to) c.in_ok-placed.ensures.packet
    (run_alone run packet c.args.from end (end - run.span) slots others (subst (λ r. TakesRun slots r others) (sym is) takes) none begins ends placed.within)

pub returns-in-Some-clause-passes : goal.returns-in-Some-clause-passes
returns-in-Some-clause-passes c = λ slots others takes.
    let placed = c.in_ok-placed.placed in
    let run = placed.run.now in
    let packet = placed.packet.now in
    let is = c.in_ok-placed.ensures.run in
    let end = placed.end in
    let f = c.in-Some.field in
    let begins : BeginsAt c.args.from.place run (end - run.span) = subst (λ (r : PlannedRun). BeginsAt c.args.from.place r (end - r.span)) (sym is) c.in_ok-placed.ensures.begins in
    let ends : end - run.span + run.span ≡ end = omega (arith, placed.begun) in
    let some : run.field ≡ Some f = ap (λ (r : PlannedRun). r.field) is ∙ c.in-Some.is in
    let from : Reach = record { place = end; more = c.args.from.more } in
    let Holds : Slot → Reach → Type 0 = λ s to. Passes (λ line after. (last : Option ℕ) × IsLastOf placed last × PutsField s packet.bytes.now packet.end (after_number from last line) (reached to after)) in
    IfSome_then c.pass_field.result (each_field c.pass_field.result f Holds c.pass_field.ensures.passes) (λ to passes.
    subst (λ p. PassesFields slots others p c.args.from to) c.in_ok-placed.ensures.packet
    (run_fielded run f packet c.args.from to end (end - run.span) slots others (subst (λ r. TakesRun slots r others) (sym is) takes) some begins ends placed.within passes))
