use Rattle.std.proofs.Common.{◌++◌, ◌∷◌, [], false, max, refl, sym, subst, rules}
use Rattle.ctf_class.specs.PlanBuilding.{IsMade, slot_of}
use Rattle.ctf_class.specs.Records.{Slot, IsNumber}
use Rattle.ctf_class.specs.declared.planned_number.PlannedNumber.{PlannedNumber}
use Rattle.ctf_class.proofs.RecordsLemmas.{goes_on, made_number}
use Rattle.ctf_class.proofs.plan_builder.PlanBuilder.add_integer.Goals as goal

pub returns-clause-made : goal.returns-clause-made
returns-clause-made c = λ _ done made known.
    let s : Slot = slot_of c.args.lead.now known false c.args.member.now in
    let n : PlannedNumber = record { integer = c.in-Some.integer; window = c.in-Some.window; is_special = c.is_special.result; ready = c.in-Some-2.ready } in
    let run = c.align_with-run_align.result in
    let on = goes_on c.args.self.now.align run s c.args.self.now.numbers c.align_with-run_align.ensures.first c.align_with-run_align.ensures.later in
    let is : IsNumber (max 8 run) c.args.self.now.span s n = record {
      is = search rules;
      kept = refl;
      special = search rules;
      begins = search rules;
      divides = search rules;
      window = search rules;
      ready = search rules;
    } in
    subst (IsMade (done ++ s ∷ [])) (sym c.in_ok-add_number.ensures) (made_number done s c.args.self.now run n on is (search rules) made)
