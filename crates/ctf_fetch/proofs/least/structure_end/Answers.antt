use Rattle.std.proofs.Common.{rules, ◌≡◌, ◌+◌}
use Rattle.std.specs.Int.{next_multiple_of}
use Rattle.ctf_fetch.specs.Demand.{EndsAtLeast, MembersTake}
use Rattle.ctf_fetch.proofs.Taking.{on_some, structure_ends}
use Rattle.ctf_fetch.proofs.least.structure_end.Goals as goal

pub returns-clause-least : goal.returns-clause-least
returns-clause-least c =
    let class = c.args.class.now in
    let place = c.args.place.now in
    let bits = c.in_ok-bits.bits in
    let members = c.in-Structure.members in
    let first : c.from.result ≡ c.up-begin.result = search rules in
    let more : c.from-2.result ≡ bits = search rules in
    let value = c.in_packet.ensures.value in
    let each : MembersTake members bits = rw c.as_slice.ensures at c.in_ok-bits.ensures.least in
    on_some c.in_packet.result (λ end. end ≡ next_multiple_of place.end class.align + bits) (EndsAtLeast class place) (λ end is. structure_ends class place members bits end c.in-Structure.is each is) (rw (first, more, c.up-begin.ensures.value) at value)
