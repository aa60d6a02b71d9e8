use Rattle.std.proofs.Common.{sym, ap, ◌∙◌, refl}
use Rattle.ctf_class.specs.declared.class.Kind as kind
use Rattle.ctf_class.proofs.HeaderPlanLemmas.{two_members}
use Rattle.ctf_class.proofs.header_plan.plan_of.Goals as goal

pub returns-in-Some : goal.returns-in-Some
returns-in-Some c =
    let all = two_members c.as_slice.result.now c.tag-item.result c.variant-item.result c.in-len2.len_at_least c.in-len2.len_below c.tag-item.is c.variant-item.is ∙ c.as_slice.ensures in
    c.in-Some.ensures c.args.class.now refl (c.in-Structure.is ∙ ap kind.Structure (sym all))
