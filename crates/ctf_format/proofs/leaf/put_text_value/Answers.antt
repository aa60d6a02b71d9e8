use Rattle.std.proofs.Common.{take}
use Rattle.ctf_format.proofs.ElementsLemmas.{writes_text}
use Rattle.ctf_format.proofs.leaf.put_text_value.Goals as goal

pub returns-clause-puts : goal.returns-clause-puts
returns-clause-puts c = λ before a many counts.
    writes_text before a many c.args.count c.args.packet.now c.args.from.place c.in_ok-ends.ends (take c.args.from.text c.args.buffer.now.items) c.put_fixed_text.new.buffer.items counts c.in_ok-ends.ensures.puts
