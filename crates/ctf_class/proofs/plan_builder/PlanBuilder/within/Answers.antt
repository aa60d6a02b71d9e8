use Rattle.std.proofs.Common.{◌∙◌, ap, map}
use Rattle.ctf_class.specs.PlanBuilding.{moved_by}
use Rattle.ctf_class.specs.declared.known.Move.TheVariants.{Within}
use Rattle.ctf_class.proofs.RecordsLemmas.{moved_within}
use Rattle.ctf_class.proofs.plan_builder.PlanBuilder.within.Goals as goal

pub returns-clause-known : goal.returns-clause-known
returns-clause-known c = c.new-inner.ensures.known ∙ c.in_ok-known.ensures ∙ ap (map (moved_by Within)) c.as_slice.ensures ∙ moved_within c.args.self.now.known
