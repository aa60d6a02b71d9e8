use Rattle.std.proofs.Common.{◌≡◌, ◌∙◌, ◌∷◌, [], Err, ap, sym, subst, ⊎_elim, inl, inr, rules}
use Rattle.ctf_packet.specs.Items.{before}
use Rattle.ctf_record_text.specs.Making.{Made}
use Rattle.ctf_stream.specs.Coming.{opened_in, left_in, item_in, TakesItem, HoldsFront}
use Rattle.ctf_fetch.proofs.Longer.{record_held}
use Rattle.ctf_stream.proofs.Steps.{left_fault, took_made, holds_made}
use Rattle.ctf_stream.proofs.packet.PacketReader.next.Goals as goal

pub returns-clause-takes : goal.returns-clause-takes
returns-clause-takes c = λ shift follows timed.
    let p = c.args.self.now in
    let known = c.args.scopes.now in
    let after = c.event_at.new.scopes in
    let bytes = c.args.input.buffer.now in
    let part = c.args.line.now.part in
    let line = c.event_at.new.line.bytes.items in
    let made = c.in_ok-made.made in
    let rest = left_in shift after bytes follows (record p { clock = made.record.clock; place = made.record.end }) in
    let held = record_held (opened_in shift known p.opened) bytes c.padded.result.now c.requires.held c.padded.ensures p.clock p.place in
    let makes = subst (λ stands. Made p.opened.stream.now stands part after line made.record made.text) held (c.in_ok-made.ensures.makes shift timed) in
    took_made shift p known after bytes c.in_ok-made.ensures.packet made.record follows part line made.text (search rules) (search rules) (search rules) makes
    ∙ ap (λ f. before (item_in shift after bytes p f ∷ []) rest) (sym c.front_of.ensures)

pub returns-clause-written : goal.returns-clause-written
returns-clause-written c = λ shift timed.
    let p = c.args.self.now in
    let known = c.args.scopes.now in
    let after = c.event_at.new.scopes in
    let bytes = c.args.input.buffer.now in
    let part = c.args.line.now.part in
    let line = c.event_at.new.line.bytes.items in
    let made = c.in_ok-made.made in
    let held = record_held (opened_in shift known p.opened) bytes c.padded.result.now c.requires.held c.padded.ensures p.clock p.place in
    let makes = subst (λ stands. Made p.opened.stream.now stands part after line made.record made.text) held (c.in_ok-made.ensures.makes shift timed) in
    subst (HoldsFront c.args.input.writes shift after bytes part line p) (sym c.front_of.ensures)
    (holds_made shift p known after bytes c.in_ok-made.ensures.packet made.record c.args.input.writes part line made.text (search rules) (search rules) (search rules) makes)

pub returns-in_err-made-clause-takes : goal.returns-in_err-made-clause-takes
returns-in_err-made-clause-takes c = λ shift follows timed.
    let p = c.args.self.now in
    let known = c.args.scopes.now in
    let bytes = c.args.input.buffer.now in
    let fault = c.in_err-made.field-0.0 in
    let is : c.from_residual.result ≡ Err fault = search rules in
    let held = record_held (opened_in shift known p.opened) bytes c.padded.result.now c.requires.held c.padded.ensures p.clock p.place in
    subst (λ r. TakesItem shift follows (left_in shift known bytes follows p) p c.event_at.new.scopes bytes r) (sym is)
    (⊎_elim
    (λ found. inl (left_fault shift p known bytes follows fault (search rules) (search rules) (search rules) (sym held ∙ found)))
    (λ memory. inr memory)
    (c.in_err-made.ensures.makes shift timed))
