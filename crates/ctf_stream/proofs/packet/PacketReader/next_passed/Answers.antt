use Rattle.std.proofs.Common.{refl, rules, subst, sym}
use Rattle.ctf_record_text.specs.Making.{IsBefore, IsThere}
use Rattle.ctf_stream.specs.Asked.{IsEarly}
use Rattle.ctf_stream.specs.Coming.{opened_in}
use Rattle.ctf_fetch.proofs.Longer.{record_held}
use Rattle.ctf_stream.proofs.Steps.{is_read, took_passed}
use Rattle.ctf_stream.proofs.packet.PacketReader.next_passed.Goals as goal

pub returns-clause-takes : goal.returns-clause-takes
returns-clause-takes c = λ shift follows timed.
    let known = c.args.scopes.now in
    let p = c.args.self.now in
    let bytes = c.args.input.buffer.now in
    let event = c.in_ok-event.event in
    let held = record_held (opened_in shift known p.opened) bytes c.padded.result.now c.requires.within.held c.padded.ensures p.clock p.place in
    let there = subst (λ stands. IsThere p.opened.stream.now stands known event) held (c.in_ok-event.ensures.stands shift timed) in
    took_passed shift p known known bytes refl event follows there.0 (search rules) (search rules) (search rules) there.1

pub returns-clause-holds : goal.returns-clause-holds
returns-clause-holds c = λ shift part line timed.
    let known = c.args.scopes.now in
    let p = c.args.self.now in
    let bytes = c.args.input.buffer.now in
    let event = c.in_ok-event.event in
    let held = record_held (opened_in shift known p.opened) bytes c.padded.result.now c.requires.within.held c.padded.ensures p.clock p.place in
    let there = subst (λ stands. IsThere p.opened.stream.now stands known event) held (c.in_ok-event.ensures.stands shift timed) in
    let before : IsBefore c.in-From.time event.clock = search rules in
    (subst (λ w. IsEarly w event.clock) (sym c.in-From.is) before, is_read shift p known known bytes refl event there.0 (search rules) there.1 there.2)
