use Rattle.std.proofs.Common.{sym, ap, ◌∙◌}
use Rattle.ctf_merge.specs.Merged.{Merged}
use Rattle.ctf_merge.proofs.Going.{finds_item, finds_fault, finds_nothing, coming-item, coming-broken, coming-nothing}
use Rattle.ctf_merge.proofs.merge.Merge.fault.Goals as goal

pub returns-in-Fault-clause-shows : goal.returns-in-Fault-clause-shows
returns-in-Fault-clause-shows g c =
    let here = finds_fault _ c.in-Fault.number c.in-Fault.fault c.in-Fault.ensures.finds in
    λ tells none. sym (ap (λ (m : Merged). m.fault) (coming-broken c.args.self.now c.in-Fault.number c.in-Fault.fault c.in-Fault.ensures.fetched here))

pub returns-in-Item-clause-shows : goal.returns-in-Item-clause-shows
returns-in-Item-clause-shows g c =
    let here = finds_item _ c.in-Item._number c.in-Item.ensures.finds in
    let is = coming-item c.args.self.now c.in-Item._number here.0 c.in-Item.ensures.fetched here.1 in
    λ tells none. absurd (let no = sym none ∙ ap (λ (m : Merged). m.items) is in cc)

pub returns-in-Nothing-clause-shows : goal.returns-in-Nothing-clause-shows
returns-in-Nothing-clause-shows g c =
    λ tells none. sym (ap (λ (m : Merged). m.fault) (coming-nothing c.args.self.now c.in-Nothing.ensures.fetched (finds_nothing _ c.in-Nothing.ensures.finds)))
