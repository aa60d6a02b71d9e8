use Rattle.std.proofs.Common.{◌≡◌, ◌++◌, ◌∷◌, ◌∙◌, [], true, refl, sym, ap, subst, rules}
use Rattle.ctf_class.specs.Names.{field_text}
use Rattle.ctf_class.specs.PlanBuilding.{IsBare, IsMade, IsNestedOf, slot_of, with_branch}
use Rattle.ctf_class.specs.Records.{Slot, with_kept}
use Rattle.ctf_class.specs.declared.plan_builder.PlanBuilder.{PlanBuilder}
use Rattle.ctf_class.specs.declared.record_plan.Branch.{Branch}
use Rattle.ctf_class.specs.declared.record_plan.InnerPlans.TheVariants as inner_plans
use Rattle.ctf_class.proofs.RecordsLemmas.{branch_made, made_branch, made_same, piece_alone}
use Rattle.ctf_class.proofs.plan_builder.PlanBuilder.add_kept.Goals as goal

pub returns-clause-made : goal.returns-clause-made
returns-clause-made c = λ _ done made.
    let lead = c.args.lead.now in
    let m = c.args.member.now in
    let old = c.args.self.now in
    let s : Slot = slot_of lead old.known true m in
    let b : Branch = record { runs = c.new.result; ready = c.in-Some-2.ready; align = lead.align; nested = c.in-Some.nested; plans = inner_plans.Each c.new-2.result } in
    let is : IsNestedOf old.known true m.class c.in-Some.nested [] = search rules in
    let ready : c.in-Some-2.ready ≡ lead.text.now ++ field_text m.name = search rules in
    let bare : IsBare s b = branch_made s old.known true m.class c.in-Some.nested [] b is refl refl refl c.new.ensures refl ready refl (ap inner_plans.Each c.new-2.ensures) in
    let branched : c.add_branch.new.self ≡ with_branch old b = search rules in
    let keeps : c.keep.new.self ≡ record c.add_branch.new.self { known = with_kept true lead.place c.add_branch.new.self.known } = search rules in
    let all : c.keep.new.self ≡ record (with_branch old b) { known = with_kept true lead.place old.known } = keeps ∙ ap (λ (p : PlanBuilder). record p { known = with_kept true lead.place p.known }) branched in
    let there : IsMade (done ++ s ∷ []) (with_branch old b) = made_branch done s b old bare made in
    piece_alone lead old.known true m done old c.keep.new.self (ap (λ (p : PlanBuilder). p.count) all) (ap (λ (p : PlanBuilder). p.ended) all) (ap (λ (p : PlanBuilder). p.known) all) (subst (IsMade (done ++ s ∷ [])) (sym all) (made_same _ (with_branch old b) _ refl refl refl refl refl refl there))
