use Rattle.std.proofs.Common.{ap}
use Rattle.ctf_merge.specs.Merged.{Merged}
use Rattle.ctf_merge.proofs.Going.{finds_item, finds_fault, finds_nothing, coming-broken, coming-nothing}
use Rattle.ctf_merge.proofs.Lining.{is_next}
use Rattle.ctf_merge.proofs.merge.Merge.next_stream.Goals as goal

pub returns-in-Item-clause-item : goal.returns-in-Item-clause-item
returns-in-Item-clause-item g c =
    let here = finds_item _ c.in-Item.number c.in-Item.ensures.finds in
    is_next c.args.self.now c.in-Item.number here.0 c.in-Item.ensures.fetched here.1

pub returns-in-Fault-clause-none : goal.returns-in-Fault-clause-none
returns-in-Fault-clause-none g c =
    let here = finds_fault _ c.in-Fault._number c.in-Fault._fault c.in-Fault.ensures.finds in
    λ tells. ap (λ (m : Merged). m.items) (coming-broken c.args.self.now c.in-Fault._number c.in-Fault._fault c.in-Fault.ensures.fetched here)

pub returns-in-Nothing-clause-none : goal.returns-in-Nothing-clause-none
returns-in-Nothing-clause-none g c =
    λ tells. ap (λ (m : Merged). m.items) (coming-nothing c.args.self.now c.in-Nothing.ensures.fetched (finds_nothing _ c.in-Nothing.ensures.finds))
