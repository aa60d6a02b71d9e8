use Rattle.std.proofs.Common.{◌≡◌, Ok, Err, option_map, rules}
use Rattle.ctf_class.specs.declared.route.Scope.TheVariants.{StreamEventContext, EventContext}
use Rattle.ctf_decode.specs.Views.{form}
use Rattle.ctf_packet.proofs.Bodies as bodies
use Rattle.ctf_packet.proofs.record.put_body.Goals as goal

pub returns-in_err-end-2-clause-puts : goal.returns-in_err-end-2-clause-puts
returns-in_err-end-2-clause-puts c =
    let stream_context = option_map form c.args.at.now.packet.now.stream.now.event_context in
    let event_context = option_map form c.args.head.now.event.now.context in
    let fields = form c.args.head.now.event.now.fields in
    let first : bodies.At stream_context event_context fields c.args.at.now.bytes.now c.args.at.now.packet.now.content StreamEventContext stream_context c.args.scopes.now c.args.head.now.end (Ok c.in_ok-end.end) c.record_scope.new.scopes = rw (c.scope_place-first.ensures.scope, c.scope_place-first.ensures.bytes, c.scope_place-first.ensures.content, c.scope_place-first.ensures.place, c.event_context-stream_context.ensures) at c.in_ok-end.ensures.puts in
    let second : bodies.At stream_context event_context fields c.args.at.now.bytes.now c.args.at.now.packet.now.content EventContext event_context c.record_scope.new.scopes c.in_ok-end.end (Err c.in_err-end-2.field-0.0) c.record_scope-2.new.scopes = rw (c.scope_place-second.ensures.bytes, c.scope_place-second.ensures.content, c.scope_place-second.ensures.place, c.context-event_context.ensures) at c.in_err-end-2.ensures.puts in
    let e : c.from_residual-in_err-end-2.result ≡ Err c.in_err-end-2.field-0.0 = search rules in
    bodies.refused c.from_residual-in_err-end-2.result c.in_err-end-2.field-0.0 _ c.record_scope-2.new.scopes e (bodies.no_own stream_context event_context fields c.args.at.now.bytes.now c.args.at.now.packet.now.content c.args.scopes.now c.record_scope.new.scopes c.record_scope-2.new.scopes c.args.head.now.end c.in_ok-end.end c.in_err-end-2.field-0.0 first second)

pub returns-clause-puts : goal.returns-clause-puts
returns-clause-puts c =
    let stream_context = option_map form c.args.at.now.packet.now.stream.now.event_context in
    let event_context = option_map form c.args.head.now.event.now.context in
    let fields = form c.args.head.now.event.now.fields in
    let first : bodies.At stream_context event_context fields c.args.at.now.bytes.now c.args.at.now.packet.now.content StreamEventContext stream_context c.args.scopes.now c.args.head.now.end (Ok c.in_ok-end.end) c.record_scope.new.scopes = rw (c.scope_place-first.ensures.scope, c.scope_place-first.ensures.bytes, c.scope_place-first.ensures.content, c.scope_place-first.ensures.place, c.event_context-stream_context.ensures) at c.in_ok-end.ensures.puts in
    let second : bodies.At stream_context event_context fields c.args.at.now.bytes.now c.args.at.now.packet.now.content EventContext event_context c.record_scope.new.scopes c.in_ok-end.end (Ok c.in_ok-end-2.end) c.record_scope-2.new.scopes = rw (c.scope_place-second.ensures.scope, c.scope_place-second.ensures.bytes, c.scope_place-second.ensures.content, c.scope_place-second.ensures.place, c.context-event_context.ensures) at c.in_ok-end-2.ensures.puts in
    let third = rw (c.scope_place-third.ensures.scope, c.scope_place-third.ensures.bytes, c.scope_place-third.ensures.content, c.scope_place-third.ensures.place, c.fields-fields.ensures) at c.record_scope-3.ensures.puts in
    bodies.puts stream_context event_context fields c.args.at.now.bytes.now c.args.at.now.packet.now.content c.args.scopes.now c.record_scope.new.scopes c.record_scope-2.new.scopes c.record_scope-3.new.scopes c.args.head.now.end c.in_ok-end.end c.in_ok-end-2.end c.record_scope-3.result first second third

pub returns-clause-packet : goal.returns-clause-packet
returns-clause-packet c =
    let stream_context = option_map form c.args.at.now.packet.now.stream.now.event_context in
    let event_context = option_map form c.args.head.now.event.now.context in
    let fields = form c.args.head.now.event.now.fields in
    let first : bodies.At stream_context event_context fields c.args.at.now.bytes.now c.args.at.now.packet.now.content StreamEventContext stream_context c.args.scopes.now c.args.head.now.end (Ok c.in_ok-end.end) c.record_scope.new.scopes = rw (c.scope_place-first.ensures.scope, c.scope_place-first.ensures.bytes, c.scope_place-first.ensures.content, c.scope_place-first.ensures.place, c.event_context-stream_context.ensures) at c.in_ok-end.ensures.puts in
    let second : bodies.At stream_context event_context fields c.args.at.now.bytes.now c.args.at.now.packet.now.content EventContext event_context c.record_scope.new.scopes c.in_ok-end.end (Ok c.in_ok-end-2.end) c.record_scope-2.new.scopes = rw (c.scope_place-second.ensures.scope, c.scope_place-second.ensures.bytes, c.scope_place-second.ensures.content, c.scope_place-second.ensures.place, c.context-event_context.ensures) at c.in_ok-end-2.ensures.puts in
    let third = rw (c.scope_place-third.ensures.scope, c.scope_place-third.ensures.bytes, c.scope_place-third.ensures.content, c.scope_place-third.ensures.place, c.fields-fields.ensures) at c.record_scope-3.ensures.puts in
    bodies.keeps stream_context event_context fields c.args.at.now.bytes.now c.args.at.now.packet.now.content c.args.scopes.now c.record_scope.new.scopes c.record_scope-2.new.scopes c.record_scope-3.new.scopes c.args.head.now.end c.in_ok-end.end c.in_ok-end-2.end c.record_scope-3.result first second third
