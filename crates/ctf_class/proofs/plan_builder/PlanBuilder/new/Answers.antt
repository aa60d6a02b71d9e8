use Rattle.std.proofs.Common.{rules}
use Rattle.ctf_class.proofs.RecordsLemmas.{made_none}
use Rattle.ctf_class.proofs.plan_builder.PlanBuilder.new.Goals as goal

pub returns-clause-made : goal.returns-clause-made
returns-clause-made c = made_none c.args.known _ (search rules) (search rules) (search rules) (search rules) (search rules) (search rules) (search rules) (search rules) (search rules)
