use Rattle.std.proofs.Common.{refl, ap, ◌∙◌}
use Rattle.std.specs.Option.{option_and}
use Rattle.ctf_record_text.specs.declared.header.ToldHead.{ToldHead}
use Rattle.ctf_record_text.proofs.Bare.{tells_bare}
use Rattle.ctf_record_text.proofs.header.told_bare.Goals as goal

pub returns-clause-tells : goal.returns-clause-tells
returns-clause-tells c = λ shift has_line.
    let at = c.args.at.now in
    let class = at.packet.now.stream.now in
    let told : ToldHead = record { head = record { event = c.in_ok-planned.planned.event; plan = c.in_ok-planned.planned.plan; clock = c.and.result; end = at.place }; spent = 0 } in
    tells_bare class shift at.bytes.now at.packet.now.content at.place at.clock told c.requires.bare c.in_ok-planned.ensures.event (c.and.ensures ∙ ap (λ l. option_and l at.clock) has_line) refl refl
