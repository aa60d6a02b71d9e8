use Rattle.std.proofs.Common.{refl, sym, subst}
use Rattle.ctf_merge.specs.Merged as merges
use Rattle.ctf_merge.specs.Finding.{Finds}
use Rattle.ctf_merge.specs.declared.merge.First.TheVariants as firsts
use Rattle.ctf_merge.proofs.Lining.{first_turn, no_turn, lined_going, first_going}
use Rattle.ctf_merge.proofs.merge.Merge.first.Goals as goal

pub returns-in-Some-clause-finds : goal.returns-in-Some-clause-finds
returns-in-Some-clause-finds g c =
    let lined = lined_going c.self.inside.stage _ c.self.inside.turns c.in-Going.is c.self.invariant.stands in
    let at = first_turn _ c.self.inside.turns c.in-Some.number lined c.in-Some.ensures.first in
    let is = first_going c.args.self.now c.self.inside.readers.items c.self.inside.stage _ c.self.view_is c.in-Going.is at.1 in
    subst (λ (f : merges.First). Finds f (firsts.Item c.in-Some.number)) (sym is) refl

pub returns-in-None-clause-finds : goal.returns-in-None-clause-finds
returns-in-None-clause-finds g c =
    let lined = lined_going c.self.inside.stage _ c.self.inside.turns c.in-Going.is c.self.invariant.stands in
    let is = first_going c.args.self.now c.self.inside.readers.items c.self.inside.stage _ c.self.view_is c.in-Going.is (no_turn _ c.self.inside.turns lined c.in-None.ensures.none) in
    subst (λ (f : merges.First). Finds f firsts.Nothing) (sym is) tt
