use Rattle.std.proofs.Common.{◌<◌, take, rules, arith}
use Rattle.ctf_decode.specs.Forms as forms
use Rattle.ctf_format.specs.Texts.{integer_text}
use Rattle.ctf_format.proofs.Chains.{of_ok}
use Rattle.ctf_format.proofs.ArrayLemmas.{closed}
use Rattle.ctf_format.proofs.array.put_elements.Goals as goal

pub returns-clause-puts : goal.returns-clause-puts
returns-clause-puts c =
    let i = c.args.class.now.integer.now in
    let some : 0 < c.args.count = search (rules, arith) in
    closed (forms.integer c.args.class.now.align i) (integer_text i) 1 c.args.count c.args.packet.now.bytes.now c.args.packet.now.end c.args.from.place c.in_ok-ends.ends.place (take c.args.from.text c.args.buffer.now.items) (take c.in_ok-ends.ends.text c.put_row.new.buffer.items) (take c.in_ok-text-2.text c.put_end.new.buffer.items) some (of_ok _ _ c.in_ok-text-2.ensures.value c.put_end.ensures).text c.in_ok-ends.ensures.puts
