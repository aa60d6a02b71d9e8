use Rattle.std.proofs.Common.{Some, pos, sym, ap, ◌∙◌}
use Rattle.ctf_packet.specs.Classes.{event_form}
use Rattle.ctf_record_text.proofs.Heading.{tells_untimed}
use Rattle.ctf_record_text.proofs.header.told_untimed.Goals as goal

pub returns-clause-tells : goal.returns-clause-tells
returns-clause-tells c = λ shift has_line.
    let at = c.args.at.now in
    let class = at.packet.now.stream.now in
    let is = c.requires.plan in
    let h = c.head_of.ensures in
    let named = c.in_ok-planned.ensures.event ∙ ap (λ e. Some (event_form class e.now)) (sym h.event) in
    tells_untimed class shift is.0 at.clock (record { cycles = 0; time = pos 0 }) at.bytes.now at.packet.now.content at.place c.in_ok-to.to c.head_of.result is.1 (sym has_line ∙ c.requires.timeline) (c.in_ok-to.ensures.tells is.0 is.2) named h.clock h.end h.spent
