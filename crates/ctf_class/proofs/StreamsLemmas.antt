-- Plans of event classes, found at their places.
use Rattle.std.proofs.Common.{◌≡◌, ℕ, zero, suc, ◌+◌, ◌<◌, ◌≤◌, Bool, List, [], ◌∷◌, ◌++◌, length, Option, Some, None, sym, ap, subst, ◌∙◌, arith}
use Rattle.std.specs.List.{find, position_from, slice_get}
use Rattle.ctf_class.specs.declared.class.Class.{Class}
use Rattle.ctf_class.specs.declared.record_plan.PlannedRun.{PlannedRun}
use Rattle.ctf_class.specs.declared.record_plan.RecordPlan.{RecordPlan}
use Rattle.ctf_class.specs.declared.trace.EventClass.{EventClass}
use Rattle.ctf_class.specs.Records.{ScopeClass, IsPlanOf, classes_in, scopes_of}
use Rattle.ctf_class.specs.Streams.{ArePlans, classes_if, planned_classes}
use Rattle.ctf_class.proofs.PlacesLemmas.{find-at_place}

-- the item at the place of the first one that passes, or none past the items
pub finds : {T : Type 0} (test : T → Bool) (items : List T) (place : ℕ) (found : Option T) → Some place ≡ position_from test 0 items → slice_get items place ≡ found → found ≡ find test items
finds test items place found is at = sym at ∙ sym (find-at_place test items place (sym is))

-- each event class has a plan at its place
pub has_plan : (shared : Option Class) (es : List EventClass) (ps : List RecordPlan) (i : ℕ) (e : EventClass) → ArePlans shared es ps → slice_get es i ≡ Some e → slice_get ps i ≡ None → ⊥
has_plan shared [] [] i e are has_event no_plan = absurd (cc)
has_plan shared [] (q ∷ ps) i e are has_event no_plan = absurd are
has_plan shared (d ∷ es) [] i e are has_event no_plan = absurd are
has_plan shared (d ∷ es) (q ∷ ps) zero e are has_event no_plan = absurd (cc)
has_plan shared (d ∷ es) (q ∷ ps) (suc i) e are has_event no_plan = has_plan shared es ps i e are.1 has_event no_plan

-- the plan at the place of an event class is its own
pub plan_at : (shared : Option Class) (es : List EventClass) (ps : List RecordPlan) (i : ℕ) (e : EventClass) (p : RecordPlan) → ArePlans shared es ps → slice_get es i ≡ Some e → slice_get ps i ≡ Some p → IsPlanOf (scopes_of shared e.context e.fields) p
plan_at shared [] [] i e p are has_event has_plan = absurd (cc)
plan_at shared [] (q ∷ ps) i e p are has_event has_plan = absurd are
plan_at shared (d ∷ es) [] i e p are has_event has_plan = absurd are
plan_at shared (d ∷ es) (q ∷ ps) zero e p are has_event has_plan =
    let same_event : d ≡ e = ap (λ o. or_else d o) has_event in
    let same_plan : q ≡ p = ap (λ o. or_else q o) has_plan in
    subst (λ (x : EventClass). IsPlanOf (scopes_of shared x.context x.fields) p) same_event (subst (IsPlanOf (scopes_of shared d.context d.fields)) same_plan are.0)
  where
    or_else : {A : Type 0} → A → Option A → A
    or_else a None = a
    or_else a (Some b) = b
plan_at shared (d ∷ es) (q ∷ ps) (suc i) e p are has_event has_plan = plan_at shared es ps i e p are.1 has_event has_plan

-- one event class more
pub plans_more : (shared : Option Class) (es : List EventClass) (ps : List RecordPlan) (e : EventClass) (p : RecordPlan) → ArePlans shared es ps → IsPlanOf (scopes_of shared e.context e.fields) p → ArePlans shared (es ++ e ∷ []) (ps ++ p ∷ [])
plans_more shared [] [] e p are is = (is, tt)
plans_more shared [] (q ∷ ps) e p are is = absurd are
plans_more shared (d ∷ es) [] e p are is = absurd are
plans_more shared (d ∷ es) (q ∷ ps) e p are is = (are.0, plans_more shared es ps e p are.1 is)

-- a plan is paid for, or has no runs
pub paid_for : (rs : List PlannedRun) (ks : List ScopeClass) {new old : ℕ} → new ≤ old → (0 < length rs → new + classes_in ks ≡ old) → new + classes_if rs ks ≤ old
paid_for [] ks less paid = omega (arith, less)
paid_for (r ∷ rs) ks less paid =
    let whole = paid (omega (arith)) in
    omega (arith, whole)

-- what one event class more adds
pub planned_more : (shared : Option Class) (es : List EventClass) (ps : List RecordPlan) (e : EventClass) (p : RecordPlan) → ArePlans shared es ps → planned_classes shared (es ++ e ∷ []) (ps ++ p ∷ []) ≡ planned_classes shared es ps + classes_if p.runs (scopes_of shared e.context e.fields)
planned_more shared [] [] e p are = omega (arith)
planned_more shared [] (q ∷ ps) e p are = absurd are
planned_more shared (d ∷ es) [] e p are = absurd are
planned_more shared (d ∷ es) (q ∷ ps) e p are =
    let rest = planned_more shared es ps e p are.1 in
    omega (arith, rest)
