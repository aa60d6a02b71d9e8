use Rattle.std.proofs.Common.{rules, ◌≡◌, ◌+◌}
use Rattle.ctf_fetch.specs.Demand.{EndsAtLeast}
use Rattle.ctf_fetch.proofs.Taking.{on_some, ends_at_least}
use Rattle.ctf_fetch.proofs.least.least_end.Goals as goal

pub returns-clause-least : goal.returns-clause-least
returns-clause-least c =
    let class = c.args.class.now in
    let place = c.args.place.now in
    let bits = c.in_ok-bits.bits in
    let first : c.from.result ≡ place.end = search rules in
    let more : c.from-2.result ≡ bits = search rules in
    let value = c.in_packet.ensures.value in
    on_some c.in_packet.result (λ end. end ≡ place.end + bits) (EndsAtLeast class place) (λ end is. ends_at_least class place bits end c.in_ok-bits.ensures.least is) (rw (first, more) at value)
