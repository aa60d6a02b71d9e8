use Rattle.ctf_format.proofs.BinaryLemmas.{lanes_shown}
use Rattle.ctf_format.proofs.binary.glyphs.Goals as goal

pub returns : goal.returns
returns c = lanes_shown c.args.number
