use Rattle.std.proofs.Common.{◌≡◌, Some, take, subst, rules}
use Rattle.ctf_format.specs.Records.{PutsRun, reached}
use Rattle.ctf_format.proofs.planned_record.put_run.Goals as goal

pub returns-then-run-clause-puts : goal.returns-then-run-clause-puts
returns-then-run-clause-puts c =
    let placed = c.in_ok-placed.placed in
    let is = c.in_ok-placed.ensures in
    let from = reached c.args.reach.now (take c.args.at c.args.buffer.now.items) in
    let to = c.put_special_run.new.reach in
    let items = c.put_special_run.new.buffer.items in
    let text = Some c.in_ok-text.text in
    let kept : take c.args.at c.with_room.new.buffer.items ≡ take c.args.at c.args.buffer.now.items = search rules in
    subst (λ r. PutsRun text r c.args.packet.now from to items) is.run
    (subst (λ p. PutsRun text placed.run.now p from to items) is.packet
    (subst (λ xs. PutsRun text placed.run.now placed.packet.now (reached c.args.reach.now xs) to items) kept c.in_ok-text.ensures.puts))

pub returns-clause-puts : goal.returns-clause-puts
returns-clause-puts c =
    let placed = c.in_ok-placed.placed in
    let is = c.in_ok-placed.ensures in
    let from = reached c.args.reach.now (take c.args.at c.args.buffer.now.items) in
    let to = c.put_placed_run.new.reach in
    let items = c.put_placed_run.new.buffer.items in
    let text = c.put_placed_run.result in
    let kept : take c.args.at c.with_room.new.buffer.items ≡ take c.args.at c.args.buffer.now.items = search rules in
    subst (λ r. PutsRun text r c.args.packet.now from to items) is.run
    (subst (λ p. PutsRun text placed.run.now p from to items) is.packet
    (subst (λ xs. PutsRun text placed.run.now placed.packet.now (reached c.args.reach.now xs) to items) kept c.put_placed_run.ensures.puts))
