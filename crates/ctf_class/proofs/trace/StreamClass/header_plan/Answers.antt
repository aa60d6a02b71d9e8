use Rattle.std.proofs.Common.{sym, subst, option_copied}
use Rattle.ctf_class.specs.HeaderPlans.{IsHeaderPlanOf}
use Rattle.ctf_class.specs.Streams.{StreamClass}
use Rattle.ctf_class.proofs.trace.StreamClass.header_plan.Goals as goal

pub returns : goal.returns
returns c =
    let inside = c.self.inside in
    let kept = subst (λ h. IsHeaderPlanOf inside.parts.event_header h) (sym c.as_ref.ensures.value) c.self.invariant.0 in
    subst (λ (s : StreamClass). IsHeaderPlanOf s.event_header (option_copied c.as_ref.result)) c.self.view_is kept
