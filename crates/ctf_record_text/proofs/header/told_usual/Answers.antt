use Rattle.std.proofs.Common.{◌<◌, ◌^◌, Some, pos, map, option_map, refl, sym, subst, ap, ◌∙◌, arith}
use Rattle.ctf_record_text.specs.Headers.{TellsHead}
use Rattle.ctf_packet.specs.Classes.{event_form, stream_form}
use Rattle.ctf_packet.specs.Records.{event_named}
use Rattle.ctf_packet.proofs.Streams.{number_within}
use Rattle.ctf_record_text.proofs.Heading.{tells_head}
use Rattle.ctf_record_text.proofs.header.told_usual.Goals as goal

pub returns-clause-tells : goal.returns-clause-tells
returns-clause-tells c = λ shift has_line.
    let at = c.args.at.now in
    let class = at.packet.now.stream.now in
    let is = c.in_ok-plan.ensures in
    let h = c.head_of.ensures in
    let n = c.in_ok-to-2.field-0 in
    let small : n < 2 ^ 64 = omega arith in
    let named =
    ap (λ id. event_named (map (event_form class) class.events) (option_map pos id)) c.in_ok-to-2.was ∙ sym (number_within class (pos n) n refl small)
    ∙ ap (option_map (event_form class)) c.in_ok-planned.ensures.event ∙ ap (λ e. Some (event_form class e.now)) (sym h.event)
    in
    subst (λ o. TellsHead class (stream_form shift class) at.bytes.now at.packet.now.content o at.place c.head_of.result) (sym c.in_ok-at.was)
    (tells_head class shift is.0 c.in_ok-timeline.timeline.now c.in_ok-at.field-0 at.bytes.now at.packet.now.content at.place c.in_ok-to.to c.head_of.result is.1 (sym has_line ∙ sym c.in_ok-timeline.ensures.value) (c.in_ok-to.ensures.tells is.0 is.2) named h.clock h.end h.spent)
