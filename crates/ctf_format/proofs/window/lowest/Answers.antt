use Rattle.std.proofs.Common.{w64}
use Rattle.std.proofs.lemmas.Nat.Bits.{bit_at-trailing_zeros}
use Rattle.ctf_format.proofs.WindowLemmas.{marked_some}
use Rattle.ctf_format.proofs.window.lowest.Goals as goal

pub returns : goal.returns
returns c = (bit_at-trailing_zeros w64 c.args.bits (marked_some c.args.bits c.requires.0 c.requires.1) c.ranges.bits.fits).2
