use Rattle.std.proofs.Common.{arith, rules, ◌≡◌, ◌*◌, length, None, Err, ap, ◌∙◌}
use Rattle.std.proofs.lemmas.Grind.{common_steps}
use Rattle.ctf_packet.specs.Packets.{sizes_checked}
use Rattle.ctf_fetch.proofs.Sizing.{refused_rest, rest_sized}
use Rattle.ctf_fetch.proofs.packet_start.fill_sizes.Goals as goal

pub returns-in_err-ending-in-None-clause-takes : goal.returns-in_err-ending-in-None-clause-takes
returns-in_err-ending-in-None-clause-takes g c = λ tells.
    let e : c.from_residual-in_err-ending-in-None.result ≡ Err c.in_err-ending-in-None.field-0.0 = search rules in
    rw (e) (refused_rest (g.S.Source.ending c.args.intake.now.source.now) c.args.opening.begun.first c.fill_rest.new.intake.buffer.now (g.S.Source.left c.fill_rest.new.intake.source.now) c.args.opening.sizes c.in_err-ending-in-None.field-0.0 c.in-None.is
    (c.in_err-ending-in-None.ensures.takes tells))

pub returns-in_ok-ending-in-None-clause-packet : goal.returns-in_ok-ending-in-None-clause-packet
returns-in_ok-ending-in-None-clause-packet g c =
    let first = c.args.opening.begun.first in
    rest_sized c.in_ok-ending-in-None.ending (length c.fill_rest.new.intake.buffer.now) first c.sizes_checked.result (c.sizes_checked.ensures.value ∙ ap (λ l. sizes_checked None None c.in_ok-ending-in-None.ending (8 * length l) first) c.as_slice.ensures)

pub returns-in_ok-fill_whole-in-Some-clause-fitting : goal.returns-in_ok-fill_whole-in-Some-clause-fitting
returns-in_ok-fill_whole-in-Some-clause-fitting g c = grind (arith, common_steps)
