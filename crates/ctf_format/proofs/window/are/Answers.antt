use Rattle.std.proofs.Common.{eqb, w8, arith}
use Rattle.std.proofs.lemmas.Simd.{bitmask_splat}
use Rattle.ctf_format.proofs.window.are.Goals as goal

pub returns : goal.returns
returns c = bitmask_splat w8 eqb c.args.window 16 c.args.byte c.fits-window.0 (omega arith)
