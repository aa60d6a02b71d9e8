use Rattle.std.proofs.Common.{Some, sym, subst, ap, ◌∙◌}
use Rattle.ctf_record_text.specs.Headers.{TellsHead}
use Rattle.ctf_packet.specs.Classes.{event_form, stream_form}
use Rattle.ctf_record_text.proofs.Heading.{tells_head}
use Rattle.ctf_record_text.proofs.header.told_timed.Goals as goal

pub returns-clause-tells : goal.returns-clause-tells
returns-clause-tells c = λ shift has_line.
    let at = c.args.at.now in
    let class = at.packet.now.stream.now in
    let is = c.requires.plan in
    let h = c.head_of.ensures in
    let named = c.in_ok-planned.ensures.event ∙ ap (λ e. Some (event_form class e.now)) (sym h.event) in
    subst (λ o. TellsHead class (stream_form shift class) at.bytes.now at.packet.now.content o at.place c.head_of.result) (sym c.in_ok-at.was)
    (tells_head class shift is.0 c.args.timeline.now c.in_ok-at.field-0 at.bytes.now at.packet.now.content at.place c.in_ok-to.to c.head_of.result is.1 (sym has_line ∙ c.requires.timeline) (c.in_ok-to.ensures.tells is.0 is.2) named h.clock h.end h.spent)
