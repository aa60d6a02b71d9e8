use Rattle.std.proofs.Common.{take}
use Rattle.ctf_decode.specs.Forms as forms
use Rattle.ctf_format.specs.Texts.{string_text}
use Rattle.ctf_format.proofs.ElementsLemmas.{writes_one}
use Rattle.ctf_format.proofs.leaf.put_string_value.Goals as goal

pub returns-clause-puts : goal.returns-clause-puts
returns-clause-puts c = λ before a.
    writes_one before (forms.string a) string_text c.args.packet.now c.in_ok-ends.ends (take c.args.from.text c.args.buffer.now.items) c.put_string.new.buffer.items c.args.from.place (c.in_ok-ends.ensures.puts a)
