use Rattle.std.proofs.Common.{◌-◌, ◌/◌, [], None, take, refl}
use Rattle.ctf_format.specs.Records.{after_number, reached}
use Rattle.ctf_format.specs.declared.planned_record.Reach.{Reach}
use Rattle.ctf_format.proofs.RecordsLemmas.{no_number, after_none, after_some, run_field}
use Rattle.ctf_format.proofs.planned_record.put_run_field.Goals as goal

pub returns-in-None-clause-puts : goal.returns-in-None-clause-puts
returns-in-None-clause-puts c = λ slots others after.
    let placed = c.args.placed in
    let run = placed.run.now in
    (None, no_number run.numbers placed.packet.now.bytes.now ((placed.end - run.span) / 8), [], after_none slots others run.field c.in-None.is after, refl)

pub returns-in-Some-clause-puts : goal.returns-in-Some-clause-puts
returns-in-Some-clause-puts c = λ slots others after.
    let placed = c.args.placed in
    let run = placed.run.now in
    let at : Reach = record { place = placed.end; more = c.args.reach.now.more } in
    let line = take c.args.at c.args.buffer.now.items in
    let one = after_some slots others run.field c.in-Some.field c.in-Some.is after in
    run_field slots others one.0 run.numbers placed.packet.now.bytes.now placed.packet.now.end ((placed.end - run.span) / 8) (λ last. after_number at last line) c.put_field.result (λ t. reached c.put_field.new.reach (take t c.put_field.new.buffer.items)) one.1 (c.put_field.ensures.puts one.0 one.2)
