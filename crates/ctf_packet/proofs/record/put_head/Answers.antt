use Rattle.std.proofs.Common.{◌≡◌, ◌∙◌, None, Ok, Err, option_map, ap, sym, refl, inl, rules}
use Rattle.std.specs.List.{last_or}
use Rattle.ctf_decode.specs.Views.{form, val}
use Rattle.ctf_packet.specs.Classes.{stream_form, event_form}
use Rattle.ctf_packet.specs.Packets as packets
use Rattle.ctf_packet.specs.Records as records
use Rattle.ctf_packet.specs.Views.{packet_values}
use Rattle.ctf_packet.proofs.Heads as heads
use Rattle.ctf_packet.proofs.record.put_head.Goals as goal

pub returns-in_err-told-clause-puts : goal.returns-in_err-told-clause-puts
returns-in_err-told-clause-puts c = λ shift line.
    let s = c.args.at.now.packet.now.stream.now in
    let k = stream_form shift s in
    let old = c.args.scopes.now in
    let new = c.record_scope.new.scopes in
    let header : heads.Header k c.args.at.now.bytes.now c.args.at.now.packet.now.content c.args.at.now.clock c.args.at.now.place old (Ok c.in_ok-end.end) new = rw (c.scope_place-place.ensures.scope, c.scope_place-place.ensures.bytes, c.scope_place-place.ensures.content, c.scope_place-place.ensures.place, c.event_header-class.ensures) at c.in_ok-end.ensures.puts in
    let clock = (λ i. packets.clock_after ((sym line ∙ sym c.as_ref.ensures.value) i) c.args.at.now.clock (packets.moves (option_map form (sym c.event_header-class.ensures i)) (option_map val (sym c.get-header.ensures i)))) ∙ c.in_err-told.ensures in
    let e : c.from_residual-in_err-told.result ≡ Err c.in_err-told.field-0.0 = search rules in
    rw (e) (inl (heads.no_clock k c.args.at.now.bytes.now c.args.at.now.packet.now.content c.args.at.now.clock c.args.at.now.place old new c.in_ok-end.end c.requires.spent header c.in_err-told.field-0.0 clock))

pub returns-clause-puts : goal.returns-clause-puts
returns-clause-puts c = λ shift line.
    let s = c.args.at.now.packet.now.stream.now in
    let k = stream_form shift s in
    let old = c.args.scopes.now in
    let new = c.record_scope.new.scopes in
    let header : heads.Header k c.args.at.now.bytes.now c.args.at.now.packet.now.content c.args.at.now.clock c.args.at.now.place old (Ok c.in_ok-end.end) new = rw (c.scope_place-place.ensures.scope, c.scope_place-place.ensures.bytes, c.scope_place-place.ensures.content, c.scope_place-place.ensures.place, c.event_header-class.ensures) at c.in_ok-end.ensures.puts in
    let clock = (λ i. packets.clock_after ((sym line ∙ sym c.as_ref.ensures.value) i) c.args.at.now.clock (packets.moves (option_map form (sym c.event_header-class.ensures i)) (option_map val (sym c.get-header.ensures i)))) ∙ c.in_ok-told.ensures.0 in
    let id = (λ i. last_or None (records.ids_in (option_map form (sym c.event_header-class.ensures i)) (option_map val (sym c.get-header.ensures i)))) ∙ sym c.in_ok-told.ensures.1 in
    let event = ap (records.event_named k.events) id ∙ sym c.in-Some.ensures.event in
    let all = heads.one_event k c.args.at.now.bytes.now c.args.at.now.packet.now.content c.args.at.now.clock c.args.at.now.place old new c.in_ok-end.end c.requires.spent header c.in_ok-told.told.clock (event_form s c.in-Some.named.event.now) clock event in
    (record { event = event_form s c.in-Some.named.event.now; clock = c.in_ok-told.told.clock; header = header.0 }, all, refl, refl, header.2, header.3, header.4)

pub returns-in_default-clause-puts : goal.returns-in_default-clause-puts
returns-in_default-clause-puts c = λ shift line.
    let s = c.args.at.now.packet.now.stream.now in
    let k = stream_form shift s in
    let old = c.args.scopes.now in
    let new = c.record_scope.new.scopes in
    let header : heads.Header k c.args.at.now.bytes.now c.args.at.now.packet.now.content c.args.at.now.clock c.args.at.now.place old (Ok c.in_ok-end.end) new = rw (c.scope_place-place.ensures.scope, c.scope_place-place.ensures.bytes, c.scope_place-place.ensures.content, c.scope_place-place.ensures.place, c.event_header-class.ensures) at c.in_ok-end.ensures.puts in
    let clock = (λ i. packets.clock_after ((sym line ∙ sym c.as_ref.ensures.value) i) c.args.at.now.clock (packets.moves (option_map form (sym c.event_header-class.ensures i)) (option_map val (sym c.get-header.ensures i)))) ∙ c.in_ok-told.ensures.0 in
    let id = (λ i. last_or None (records.ids_in (option_map form (sym c.event_header-class.ensures i)) (option_map val (sym c.get-header.ensures i)))) ∙ sym c.in_ok-told.ensures.1 in
    let event = ap (records.event_named k.events) id ∙ sym c.in_default.ensures.event in
    inl (heads.no_event k c.args.at.now.bytes.now c.args.at.now.packet.now.content c.args.at.now.clock c.args.at.now.place old new c.in_ok-end.end c.requires.spent header c.in_ok-told.told.clock clock event)

pub returns-clause-packet : goal.returns-clause-packet
returns-clause-packet c =
    let header = rw (c.scope_place-place.ensures.scope) at c.in_ok-end.ensures.puts in
    ap packet_values header.4
