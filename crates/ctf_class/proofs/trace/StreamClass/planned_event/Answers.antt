use Rattle.std.proofs.Common.{length, option_map, eqb, slice_get, Some, None, refl, ap, sym, subst, ◌∙◌}
use Rattle.std.specs.List.{find}
use Rattle.std.proofs.lemmas.Bool.{ltb-true, ltb-false}
use Rattle.std.proofs.lemmas.Option.{slice_get_read, slice_get_past}
use Rattle.ctf_class.specs.Records.{IsPlanOf, scopes_of}
use Rattle.ctf_class.specs.Streams.{StreamClass}
use Rattle.ctf_class.specs.declared.trace.EventClass.{EventClass}
use Rattle.ctf_class.specs.declared.trace.PlannedEvent.{PlannedEvent}
use Rattle.ctf_class.proofs.PlacesLemmas.{find-nowhere}
use Rattle.ctf_class.proofs.StreamsLemmas.{finds, has_plan, plan_at}
use Rattle.ctf_class.proofs.trace.StreamClass.planned_event.Goals as goal

pub returns-in_err-place-clause-found : goal.returns-in_err-place-clause-found
returns-in_err-place-clause-found c =
    let test = λ (event : EventClass). eqb event.id c.args.id in
    let nowhere = find-nowhere test c.self.inside.parts.events (sym c.in_err-place.ensures) in
    ap (option_map (λ (p : PlannedEvent). p.event.now)) c.from_residual.ensures
    ∙ (sym nowhere ∙ ap (λ (s : StreamClass). find test s.events) c.self.view_is)

pub returns-in_err-event-clause-found : goal.returns-in_err-event-clause-found
returns-in_err-event-clause-found c =
    let test = λ (event : EventClass). eqb event.id c.args.id in
    let place = c.in_ok-place.place in
    let es = c.as_slice.result.now in
    let none = ap (λ xs. slice_get xs place) (sym c.as_slice.ensures) ∙ slice_get_past es place (ltb-false place (length es) (sym c.in_err-event.ensures.lookup.0)) in
    let nowhere = finds test c.self.inside.parts.events place None c.in_ok-place.ensures none in
    ap (option_map (λ (p : PlannedEvent). p.event.now)) c.from_residual-in_err-event.ensures
    ∙ (nowhere ∙ ap (λ (s : StreamClass). find test s.events) c.self.view_is)

pub returns-in_err-plan-clause-found : goal.returns-in_err-plan-clause-found
returns-in_err-plan-clause-found c =
    let inside = c.self.inside.parts in
    let place = c.in_ok-place.place in
    let e = c.in_ok-event.event.now in
    let es = c.as_slice.result.now in
    let ps = c.as_slice-2.result.now in
    let event = ap (λ xs. slice_get xs place) (sym c.as_slice.ensures) ∙ slice_get_read es (length es) place e refl (ltb-true place (length es) (sym c.in_ok-event.ensures.lookup.0)) c.in_ok-event.ensures.lookup.1 in
    let none = ap (λ xs. slice_get xs place) (sym c.as_slice-2.ensures) ∙ slice_get_past ps place (ltb-false place (length ps) (sym c.in_err-plan.ensures.lookup.0)) in
    absurd (has_plan inside.event_context inside.events c.self.inside.plans place e c.self.invariant.1 event none)

pub returns-clause-found : goal.returns-clause-found
returns-clause-found c =
    let test = λ (event : EventClass). eqb event.id c.args.id in
    let place = c.in_ok-place.place in
    let e = c.in_ok-event.event.now in
    let es = c.as_slice.result.now in
    let event = ap (λ xs. slice_get xs place) (sym c.as_slice.ensures) ∙ slice_get_read es (length es) place e refl (ltb-true place (length es) (sym c.in_ok-event.ensures.lookup.0)) c.in_ok-event.ensures.lookup.1 in
    finds test c.self.inside.parts.events place (Some e) c.in_ok-place.ensures event ∙ ap (λ (s : StreamClass). find test s.events) c.self.view_is

pub returns-clause-event : goal.returns-clause-event
returns-clause-event c =
    let test = λ (event : EventClass). eqb event.id c.args.id in
    let place = c.in_ok-place.place in
    let e = c.in_ok-event.event.now in
    let es = c.as_slice.result.now in
    let event = ap (λ xs. slice_get xs place) (sym c.as_slice.ensures) ∙ slice_get_read es (length es) place e refl (ltb-true place (length es) (sym c.in_ok-event.ensures.lookup.0)) c.in_ok-event.ensures.lookup.1 in
    sym (finds test c.self.inside.parts.events place (Some e) c.in_ok-place.ensures event ∙ ap (λ (s : StreamClass). find test s.events) c.self.view_is)

pub returns-clause-plan : goal.returns-clause-plan
returns-clause-plan c =
    let inside = c.self.inside.parts in
    let place = c.in_ok-place.place in
    let e = c.in_ok-event.event.now in
    let p = c.in_ok-plan.plan.now in
    let es = c.as_slice.result.now in
    let ps = c.as_slice-2.result.now in
    let event = ap (λ xs. slice_get xs place) (sym c.as_slice.ensures) ∙ slice_get_read es (length es) place e refl (ltb-true place (length es) (sym c.in_ok-event.ensures.lookup.0)) c.in_ok-event.ensures.lookup.1 in
    let plan = ap (λ xs. slice_get xs place) (sym c.as_slice-2.ensures) ∙ slice_get_read ps (length ps) place p refl (ltb-true place (length ps) (sym c.in_ok-plan.ensures.lookup.0)) c.in_ok-plan.ensures.lookup.1 in
    let is : IsPlanOf (scopes_of inside.event_context e.context e.fields) p = plan_at inside.event_context inside.events c.self.inside.plans place e p c.self.invariant.1 event plan in
    subst (λ (s : StreamClass). IsPlanOf (scopes_of s.event_context e.context e.fields) p) c.self.view_is is
