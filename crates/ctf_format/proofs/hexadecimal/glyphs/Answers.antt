use Rattle.ctf_format.proofs.HexadecimalLemmas.{lanes_shown}
use Rattle.ctf_format.proofs.hexadecimal.glyphs.Goals as goal

pub returns : goal.returns
returns c = lanes_shown 16 c.args.numbers c.fits-numbers.0 c.requires
