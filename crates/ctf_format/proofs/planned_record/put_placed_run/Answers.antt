use Rattle.std.proofs.Common.{◌≡◌, ℕ, ◌+◌, ◌-◌, ◌*◌, ◌/◌, ◌<◌, ◌≤◌, List, ◌++◌, Option, None, length, take, refl, subst, arith}
use Rattle.ctf_class.specs.Records.{Slot}
use Rattle.ctf_format.specs.Records.{IsLastNumber, PutsFields, Reached, reached}
use Rattle.ctf_format.proofs.RecordsLemmas.{numbers_to, room_alone, room_after, run_numbers, run_joined}
use Rattle.ctf_format.proofs.planned_record.put_placed_run.Goals as goal

pub put_run_numbers-text-requires : goal.put_run_numbers-text-requires
put_run_numbers-text-requires c =
    let run = c.args.placed.run.now in
    omega (arith, c.requires.room, c.requires.near.room, room_alone run.numbers run.field)

pub put_run_field-requires-clause-room : goal.put_run_field-requires-clause-room
put_run_field-requires-clause-room c =
    let run = c.args.placed.run.now in
    omega (arith, c.requires.room, c.requires.near.room, room_after run.numbers run.field, c.put_run_numbers-text.ensures.near, c.put_run_numbers-text.ensures.length)

pub returns-clause-puts : goal.returns-clause-puts
returns-clause-puts c = λ slots others takes.
    let run = c.args.placed.run.now in
    let at = c.args.reach.now.place in
    let end = c.args.placed.end in
    let place = end - run.span in
    let more = c.args.reach.now.more in
    let bytes = c.args.placed.packet.now.bytes.now in
    let content = c.args.placed.packet.now.end in
    let before = take c.args.at c.args.buffer.now.items in
    let text = take c.put_run_numbers-text.result c.put_run_numbers-text.new.buffer.items in
    let first = place / 8 in
    let begins = c.requires.begins in
    let starts : 0 < length run.numbers → 8 * first ≡ place = λ some. (let whole = begins.whole some in omega (arith, whole)) in
    let ends : place + run.span ≡ end = omega (arith, c.args.placed.begun) in
    let within : place + run.span ≤ content = omega (arith, ends, c.args.placed.within) in
    let mid : Option ℕ → Reached = λ last. numbers_to end more last text in
    let numbers : (last : Option ℕ) → IsLastNumber last run.numbers bytes first → (used : List Slot) × (slots ≡ used ++ takes.0) × PutsFields used bytes content (numbers_to at more None before) (mid last) = λ last is.
    let all = run_numbers run.align slots takes.0 run.numbers run.numbers at run.span first place content more last bytes before before text takes.1 refl is begins.least begins.value starts within refl c.put_run_numbers-text.ensures.put.text in
    (all.0, all.1, subst (λ p. PutsFields all.0 bytes content (numbers_to at more None before) (numbers_to p more last text)) ends all.2)
    in
    run_joined slots takes.0 others run.numbers bytes content first (numbers_to at more None before) mid c.put_run_field.result (λ t. reached c.put_run_field.new.reach (take t c.put_run_field.new.buffer.items)) numbers (c.put_run_field.ensures.puts takes.0 others takes.2)
