use Rattle.ctf_fetch.specs.Demand.{ElementsTake, TakesAt}
use Rattle.ctf_fetch.proofs.Taking.{on_some, array_takes_at}
use Rattle.ctf_fetch.proofs.least.least_bits_at.Goals as goal

pub returns-in-Array-clause-least : goal.returns-in-Array-clause-least
returns-in-Array-clause-least c =
    let class = c.args.class.now in
    let place = c.args.place.now in
    let element = c.in-Array.element in
    let count = c.length_at-count.result in
    on_some c.bits_of_elements.result (ElementsTake element count) (TakesAt class place) (λ n each. array_takes_at class place c.in-Array.length element count n c.in-Array.is c.length_at-count.ensures each)
    (rw c.get.ensures at c.bits_of_elements.ensures.least)
