use Rattle.std.proofs.Common.{◌≡◌, ◌++◌, ◌∷◌, [], ◌+◌, option_copied, take, sym, ap, subst, ◌∙◌, arith}
use Rattle.std.proofs.lemmas.List.{take_more}
use Rattle.ctf_class.specs.Records.{IsPlanOf, scopes_of}
use Rattle.ctf_class.specs.Streams.{ArePlans, planned_classes}
use Rattle.ctf_class.proofs.StreamsLemmas.{plans_more, paid_for, planned_more}
use Rattle.ctf_class.proofs.trace.plans_of.Goals as goal

pub loop-event-preserved : goal.loop-event-preserved
loop-event-preserved c =
    let shared = option_copied c.args.context in
    let es = c.args.events.now in
    let i = c.loop-event.event-index in
    let e = c.event-item.result in
    let p = c.in_ok-plan.plan in
    let longer : take (i + 1) es ≡ take i es ++ e ∷ [] = take_more es i e c.loop-event-test.true ∙ ap (λ x. take i es ++ x ∷ []) (sym c.event-item.is) in
    let is : IsPlanOf (scopes_of shared e.context e.fields) p = c.in_ok-plan.ensures.plan in
    let plans = subst (ArePlans shared (take (i + 1) es)) (sym c.in_ok-push.ensures.ok) (subst (λ xs. ArePlans shared xs (c.loop-event.plans ++ p ∷ [])) (sym longer) (plans_more shared (take i es) c.loop-event.plans e p c.loop-event.invariant.plans is)) in
    let scopes = scopes_of shared e.context e.fields in
    let one = paid_for p.runs scopes c.in_ok-plan.ensures.less c.in_ok-plan.ensures.paid in
    let all = ap (planned_classes shared (take (i + 1) es)) c.in_ok-push.ensures.ok ∙ ap (λ xs. planned_classes shared xs (c.loop-event.plans ++ p ∷ [])) longer ∙ planned_more shared (take i es) c.loop-event.plans e p c.loop-event.invariant.plans in
    record {
      plans = plans;
      less = omega (arith, c.in_ok-plan.ensures.less, c.loop-event.invariant.less);
      paid = omega (arith, one, all, c.loop-event.invariant.paid);
    }
