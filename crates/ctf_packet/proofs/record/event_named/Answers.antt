use Rattle.std.proofs.Common.{◌≡◌, Option, None, Some, refl, ◌∙◌, ◌<ℤ◌, ◌≤ℤ◌, to_z, of_z, pos, ap, sym, option_map, map, arith}
use Rattle.std.specs.Int.{w128}
use Rattle.std.proofs.lemmas.Int.{ints}
use Rattle.ctf_class.specs.Streams.{StreamClass}
use Rattle.ctf_class.specs.declared.trace.PlannedEvent.{PlannedEvent}
use Rattle.ctf_packet.specs.Classes.{event_form}
use Rattle.ctf_packet.specs.Records.{event_named}
use Rattle.ctf_packet.proofs.Streams.{only_event, number_below, number_beyond, number_told}
use Rattle.ctf_packet.proofs.record.event_named.Goals as goal

-- the class of a planned event, as the definition has it
shown : (s : StreamClass) (o : Option PlannedEvent) → option_map (λ (p : PlannedEvent). event_form s p.event.now) o ≡ option_map (event_form s) (option_map (λ (p : PlannedEvent). p.event.now) o)
shown s None = refl
shown s (Some p) = refl

pub returns-in-None-clause-event : goal.returns-in-None-clause-event
returns-in-None-clause-event c =
    let s = c.args.stream.now in
    shown s c.planned_only.result ∙ ap (option_map (event_form s)) c.planned_only.ensures.found ∙ (only_event s s.events ∙ sym (ap (event_named (map (event_form s) s.events)) c.in-None.is))

pub returns-then-id-lt0-clause-event : goal.returns-then-id-lt0-clause-event
returns-then-id-lt0-clause-event c =
    let s = c.args.stream.now in
    let low : c.in-Some.id <ℤ pos 0 = grind (arith, ints) in
    number_below s c.in-Some.id low ∙ sym (ap (event_named (map (event_form s) s.events)) c.in-Some.is)

pub returns-then-id-from-clause-event : goal.returns-then-id-from-clause-event
returns-then-id-from-clause-event c =
    let s = c.args.stream.now in
    let high : pos 18446744073709551615 <ℤ c.in-Some.id = grind (arith, ints) in
    number_beyond s c.in-Some.id high ∙ sym (ap (event_named (map (event_form s) s.events)) c.in-Some.is)

pub returns-else-id-from-clause-event : goal.returns-else-id-from-clause-event
returns-else-id-from-clause-event c =
    let s = c.args.stream.now in
    let z = c.in-Some.id in
    let low : pos 0 ≤ℤ z = grind (arith, ints) in
    let high : z ≤ℤ pos 18446744073709551615 = grind (arith, ints) in
    shown s c.planned_event.result ∙ ap (option_map (event_form s)) c.planned_event.ensures.found ∙ (number_told s z (to_z w128 (of_z w128 z)) (omega (arith, ints)) low high ∙ sym (ap (event_named (map (event_form s) s.events)) c.in-Some.is))
