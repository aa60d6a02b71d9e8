use Rattle.std.proofs.Common.{◌∙◌, ◌∷◌, [], ap, sym, refl, subst, rules}
use Rattle.ctf_packet.specs.Items.{before}
use Rattle.ctf_record_text.specs.Making.{Made}
use Rattle.ctf_stream.specs.Coming.{opened_in, left_in, item_in, HoldsFront}
use Rattle.ctf_fetch.proofs.Longer.{record_held}
use Rattle.ctf_stream.proofs.Steps.{took_made, holds_made}
use Rattle.ctf_stream.proofs.packet.PacketReader.next_written.Goals as goal

pub returns-clause-takes : goal.returns-clause-takes
returns-clause-takes c = λ shift follows timed.
    let known = c.args.scopes.now in
    let p = c.args.self.now in
    let bytes = c.args.input.buffer.now in
    let part = c.args.line.now.part in
    let line = c.written_line.new.line.bytes.items in
    let made = c.in_ok-made.made in
    let rest = left_in shift known bytes follows (record p { clock = made.record.clock; place = made.record.end }) in
    let held = record_held (opened_in shift known p.opened) bytes c.padded.result.now c.requires.within.held c.padded.ensures p.clock p.place in
    let makes = subst (λ stands. Made p.opened.stream.now stands part known line made.record made.text) held (c.in_ok-made.ensures.makes shift timed) in
    took_made shift p known known bytes refl made.record follows part line made.text (search rules) (search rules) (search rules) makes
    ∙ ap (λ f. before (item_in shift known bytes p f ∷ []) rest) (sym c.front_of.ensures)

pub returns-clause-written : goal.returns-clause-written
returns-clause-written c = λ shift timed.
    let known = c.args.scopes.now in
    let p = c.args.self.now in
    let bytes = c.args.input.buffer.now in
    let part = c.args.line.now.part in
    let line = c.written_line.new.line.bytes.items in
    let made = c.in_ok-made.made in
    let held = record_held (opened_in shift known p.opened) bytes c.padded.result.now c.requires.within.held c.padded.ensures p.clock p.place in
    let makes = subst (λ stands. Made p.opened.stream.now stands part known line made.record made.text) held (c.in_ok-made.ensures.makes shift timed) in
    subst (HoldsFront c.args.input.writes shift known bytes part line p) (sym c.front_of.ensures)
    (holds_made shift p known known bytes refl made.record c.args.input.writes part line made.text (search rules) (search rules) (search rules) makes)
