use Rattle.std.proofs.Common.{take}
use Rattle.ctf_format.proofs.BranchesLemmas.{text_there}
use Rattle.ctf_format.proofs.branches.put_text_kept.Goals as goal

pub returns-clause-puts : goal.returns-clause-puts
returns-clause-puts c = λ s many kept is counts.
    let ends = c.in_ok-ends.ends in
    text_there s many c.args.count c.args.from.packet.now c.args.from.place ends.place c.in_ok-count.count ends.text (take c.args.from.text c.args.buffer.now.items) (take ends.text c.put_fixed_text.new.buffer.items) c.args.kept.now.numbers kept is counts c.requires.within.content c.in_ok-count.ensures (c.in_ok-ends.ensures.puts s.class.align)
