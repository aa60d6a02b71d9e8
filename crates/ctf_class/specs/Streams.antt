-- Stream classes and the plans of their event records (all own).
use Rattle.std.specs.Prelude.{ℕ, ◌+◌, List, [], ◌∷◌, Option, ⊤}
use Rattle.ctf_class.specs.declared.class.Class.{Class}
use Rattle.ctf_class.specs.declared.record_plan.PlannedRun.{PlannedRun}
use Rattle.ctf_class.specs.declared.record_plan.RecordPlan.{RecordPlan}
use Rattle.ctf_class.specs.declared.trace.Clock.{Clock}
use Rattle.ctf_class.specs.declared.trace.EventClass.{EventClass}
use Rattle.ctf_class.specs.Records.{ScopeClass, IsPlanOf, classes_in, scopes_of}

-- the parts of a stream class
pub record StreamClass : Type 0 where
  pub id : ℕ
  pub packet_context : Option Class
  pub event_header : Option Class
  pub event_context : Option Class
  pub clock : Option Clock
  pub events : List EventClass

-- each event class has a plan, where the stream event context has this class
abbrev pub ArePlans : Option Class → List EventClass → List RecordPlan → Type 0
ArePlans shared [] [] = ⊤
ArePlans shared [] (p ∷ ps) = ⊥
ArePlans shared (e ∷ es) [] = ⊥
ArePlans shared (e ∷ es) (p ∷ ps) =
    IsPlanOf (scopes_of shared e.context e.fields) p × ArePlans shared es ps

-- how many classes are in the scopes of records that have a plan of these runs; none if it has no runs
abbrev pub classes_if : List PlannedRun → List ScopeClass → ℕ
classes_if [] ks = 0
classes_if (r ∷ rs) ks = classes_in ks

-- how many classes are in the scopes of all event classes whose plans have runs
abbrev pub planned_classes : Option Class → List EventClass → List RecordPlan → ℕ
planned_classes shared [] ps = 0
planned_classes shared (e ∷ es) [] = 0
planned_classes shared (e ∷ es) (p ∷ ps) =
    classes_if p.runs (scopes_of shared e.context e.fields) + planned_classes shared es ps
