use Rattle.std.proofs.Common.{◌<◌, take, rules, arith}
use Rattle.ctf_decode.specs.Views.{form}
use Rattle.ctf_format.specs.Texts.{value_text}
use Rattle.ctf_format.proofs.Chains.{of_ok}
use Rattle.ctf_format.proofs.ArrayLemmas.{closed}
use Rattle.ctf_format.proofs.structures.put_elements.Goals as goal

pub returns-clause-puts : goal.returns-clause-puts
returns-clause-puts c = λ k is.
    let some : 0 < c.args.count = search (rules, arith) in
    closed (form k) (value_text k) c.args.are.now.count c.args.count c.args.packet.now.bytes.now c.args.packet.now.end c.args.from.place c.in_ok-ends.ends.place (take c.args.from.text c.args.buffer.now.items) (take c.in_ok-ends.ends.text c.put_row.new.buffer.items) (take c.in_ok-text-2.text c.put_end.new.buffer.items) some (of_ok _ _ c.in_ok-text-2.ensures.value c.put_end.ensures).text (c.in_ok-ends.ensures.puts k is)
