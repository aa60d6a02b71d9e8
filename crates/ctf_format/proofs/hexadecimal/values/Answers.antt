use Rattle.ctf_format.proofs.HexadecimalLemmas.{lanes_same}
use Rattle.ctf_format.proofs.hexadecimal.values.Goals as goal

pub returns : goal.returns
returns c = lanes_same c.args.number
