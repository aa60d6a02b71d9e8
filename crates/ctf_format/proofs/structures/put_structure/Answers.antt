use Rattle.std.proofs.Common.{◌≡◌, ◌+◌, ◌*◌, ◌/◌, ◌≤◌, ◌++◌, take, ap, ◌∙◌, arith, rules}
use Rattle.std.specs.List.{flat_map}
use Rattle.ctf_format.specs.RunNumbers.{run_text}
use Rattle.ctf_format.proofs.Chains.{of_ok}
use Rattle.ctf_format.proofs.StructuresLemmas.{structure_puts}
use Rattle.ctf_format.proofs.structures.put_structure.Goals as goal

pub returns-clause-puts : goal.returns-clause-puts
returns-clause-puts c = λ k is.
    let are = c.args.are.now in
    let packet = c.args.packet.now in
    let begin = c.up-begin.result in
    let first = begin / 8 in
    let starts : 8 * first ≡ begin = search (rules, arith) in
    let within : begin + are.span ≤ packet.end = search (rules, arith) in
    let kept : take c.args.from.text c.with_room.new.buffer.items ≡ take c.args.from.text c.args.buffer.now.items = search rules in
    let line = take c.put_numbers-text.result c.put_numbers-text.new.buffer.items in
    let wrote = c.put_numbers-text.ensures.put.text ∙ ap (λ xs. xs ++ flat_map (run_text packet.bytes.now first) are.numbers) kept in
    structure_puts k are packet.bytes.now packet.end c.args.from.place begin first (take c.args.from.text c.args.buffer.now.items) line (take c.in_ok-text.text c.put_end.new.buffer.items) is c.up-begin.ensures.least c.up-begin.ensures.value starts within wrote (of_ok _ _ c.in_ok-text.ensures.value c.put_end.ensures).text
