use Rattle.std.proofs.Common.{◌≡◌, Err, take, refl, subst, sym, rules}
use Rattle.ctf_record_text.specs.Making.{Made, Makes, PutsBody}
use Rattle.ctf_packet.specs.Places.{record_there}
use Rattle.ctf_packet.specs.Views.{values_of}
use Rattle.ctf_record_text.proofs.Records.{no_head, text_made, value_made, fault_made}
use Rattle.ctf_record_text.proofs.record.next_line.Goals as goal

pub returns-in_err-head-clause-makes : goal.returns-in_err-head-clause-makes
returns-in_err-head-clause-makes c = λ shift timed.
    let at = c.args.at.now in
    let o = at.packet.now in
    let old = values_of c.args.scopes.now in
    let f = c.in_err-head.field-0.0 in
    let is : c.from_residual.result ≡ Err f = search rules in
    subst (λ r. Makes o.stream.now (record_there shift old at) c.args.line.now.part c.next_head.new.scopes c.keep_short.new.line.bytes.items r) (sym is)
    (no_head shift o old at.bytes.now at.clock at.place c.next_head.new.scopes f (c.in_err-head.ensures.puts shift timed))

pub returns-in-Some-clause-makes : goal.returns-in-Some-clause-makes
returns-in-Some-clause-makes c = λ shift timed.
    let at = c.args.at.now in
    let o = at.packet.now in
    let old = values_of c.args.scopes.now in
    let head = c.in_ok-head.head in
    let known = c.next_head.new.scopes in
    let standing = c.in-Some.standing in
    let items = c.put_by_plan.new.line.bytes.items in
    let text = take standing.end items in
    let puts = rw c.keep_short.ensures.part at c.in-Some.ensures.puts in
    let body = subst (λ n. PutsBody known o.stream.now head.event.now c.args.line.now.part at.bytes.now o.content head.end n standing.place text) c.spent.ensures.value puts in
    let made = c.with_text.result.record in
    subst (λ t. Made o.stream.now (record_there shift old at) c.args.line.now.part known items made t) (sym c.with_text.ensures.text)
    (text_made shift o old at.bytes.now c.args.line.now.part at.clock at.place head (values_of known) known.spent known text standing.place made (refl, refl) (c.in_ok-head.ensures.puts shift timed) body c.in-Some.ensures.forward c.with_text.ensures.record)

pub returns-in_err-record-clause-makes : goal.returns-in_err-record-clause-makes
returns-in_err-record-clause-makes c = λ shift timed.
    let at = c.args.at.now in
    let o = at.packet.now in
    let old = values_of c.args.scopes.now in
    let f = c.in_err-record.field-0.0 in
    let is : c.from_residual-in_err-record.result ≡ Err f = search rules in
    let known = c.next_head.new.scopes in
    subst (λ r. Makes o.stream.now (record_there shift old at) c.args.line.now.part c.read_values.new.scopes c.if-not-is_planned.line.bytes.items r) (sym is)
    (fault_made shift o old at.bytes.now c.args.line.now.part at.clock at.place c.in_ok-head.head (values_of known) known.spent c.read_values.new.scopes f (c.in_ok-head.ensures.puts shift timed) c.in_err-record.ensures.values)

pub returns-clause-makes : goal.returns-clause-makes
returns-clause-makes c = λ shift timed.
    let at = c.args.at.now in
    let o = at.packet.now in
    let old = values_of c.args.scopes.now in
    let known = c.next_head.new.scopes in
    value_made shift o old at.bytes.now c.args.line.now.part at.clock at.place c.in_ok-head.head (values_of known) known.spent c.read_values.new.scopes c.in_ok-record.record (c.in_ok-head.ensures.puts shift timed) c.in_ok-record.ensures.values
