use Rattle.std.proofs.Common.{ap, option_copied}
use Rattle.ctf_class.proofs.HeaderPlanLemmas.{plan_is}
use Rattle.ctf_class.proofs.header_plan.header_plan.Goals as goal

pub returns-in-Some : goal.returns-in-Some
returns-in-Some c = plan_is c.in-Some.class.now c.plan_of.result (ap option_copied c.in-Some.is) c.plan_of.ensures
