use Rattle.std.proofs.Common.{sym, ap, subst, ◌∙◌, bytes_eq}
use Rattle.ctf_class.specs.SameNames.{has_twins}
use Rattle.ctf_class.specs.NamePlaces.{FindsNames}
use Rattle.ctf_class.proofs.RanksLemmas.{no-twins}
use Rattle.ctf_class.proofs.names.Names.has_twins.Goals as goal

pub returns-in-Ranked : goal.returns-in-Ranked
returns-in-Ranked c =
    let names = c.self.inside.names in
    let kept = subst (FindsNames names) c.in-Ranked.is c.self.invariant in
    sym (no-twins names c.in-Ranked.field-0 kept.0 kept.1) ∙ ap (has_twins bytes_eq) c.self.view_is
