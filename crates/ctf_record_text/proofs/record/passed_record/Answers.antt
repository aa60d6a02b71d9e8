use Rattle.std.proofs.Common.{[], refl}
use Rattle.ctf_record_text.proofs.Records.{text_told}
use Rattle.ctf_record_text.proofs.record.passed_record.Goals as goal

pub returns-clause-stands : goal.returns-clause-stands
returns-clause-stands c = λ shift timed.
    let known = c.args.scopes.now in
    let at = c.args.at.now in
    let told = c.in_ok-told.told in
    let end = c.in_ok-end.end in
    let p = c.in_ok-end.ensures.passes [] in
    let made = text_told shift at.packet.now known at.bytes.now [] at.clock at.place told p.0 end (record { event = told.head.event; clock = told.head.clock; end = end }) (c.in_ok-told.ensures.tells shift timed) p.1 c.in_ok-end.ensures.forward refl in
    (made.0, made.1, made.2)
