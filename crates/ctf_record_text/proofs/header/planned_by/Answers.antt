use Rattle.std.proofs.Common.{◌<◌, ◌^◌, pos, refl, sym, ap, ◌∙◌, option_map, map, arith}
use Rattle.std.proofs.lemmas.Option.{IfSome_then}
use Rattle.ctf_packet.specs.Classes.{event_form}
use Rattle.ctf_packet.specs.Records.{event_named}
use Rattle.ctf_packet.proofs.Streams.{number_within}
use Rattle.ctf_record_text.proofs.header.planned_by.Goals as goal

pub returns-in-Some-clause-event : goal.returns-in-Some-clause-event
returns-in-Some-clause-event c =
    let s = c.args.stream.now in
    let n = c.in-Some.id in
    let small : n < 2 ^ 64 = omega arith in
    let named = ap (λ id. event_named (map (event_form s) s.events) (option_map pos id)) c.in-Some.is ∙ sym (number_within s (pos n) n refl small) in
    IfSome_then c.planned_event.result c.planned_event.ensures.event (λ p first. named ∙ ap (option_map (event_form s)) first)
