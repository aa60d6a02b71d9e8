use Rattle.std.proofs.lemmas.Result.{err_from_is_err_and}
use Rattle.ctf_types.proofs.Heads.{widened, head_made, context_fails, header_fails, events_fail}
use Rattle.ctf_types.proofs.text.KnownText.head.Goals as goal

pub returns-in_err-packet_context : goal.returns-in_err-packet_context
returns-in_err-packet_context g c =
    let p = err_from_is_err_and c.from_residual-in_err-packet_context.result c.from_residual-in_err-packet_context.ensures.1 in rw (p.1, p.2)
    (widened c.in_err-packet_context.field-0.0 (context_fails g.text c.args.self.now.order c.args.number c.args.self.now.trace c.requires.trace c.in_err-packet_context.field-0.0) c.in_err-packet_context.ensures)

pub returns-in_err-event_header : goal.returns-in_err-event_header
returns-in_err-event_header g c =
    let p = err_from_is_err_and c.from_residual-in_err-event_header.result c.from_residual-in_err-event_header.ensures.1 in rw (p.1, p.2)
    (widened c.in_err-event_header.field-0.0 (header_fails g.text c.args.self.now.order c.args.number c.args.self.now.trace c.requires.trace c.in_err-event_header.field-0.0) c.in_err-event_header.ensures)

pub returns-in_err-event_context : goal.returns-in_err-event_context
returns-in_err-event_context g c =
    let p = err_from_is_err_and c.from_residual-in_err-event_context.result c.from_residual-in_err-event_context.ensures.1 in rw (p.1, p.2)
    (widened c.in_err-event_context.field-0.0 (events_fail g.text c.args.self.now.order c.args.number c.args.self.now.trace c.requires.trace c.in_err-event_context.field-0.0) c.in_err-event_context.ensures)

pub returns : goal.returns
returns g c =
    head_made g.text c.args.self.now.order c.args.number c.args.self.now.trace c.args.id c.in_ok-packet_context.packet_context c.in_ok-event_header.event_header c.in_ok-event_context.event_context c.in_ok-moved.moved
    c.requires.trace c.in_ok-packet_context.ensures c.in_ok-event_header.ensures c.in_ok-event_context.ensures c.in_ok-moved.ensures
