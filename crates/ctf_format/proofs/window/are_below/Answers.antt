use Rattle.std.proofs.Common.{ltb, w8, arith}
use Rattle.std.proofs.lemmas.Simd.{bitmask_splat}
use Rattle.ctf_format.proofs.window.are_below.Goals as goal

pub returns : goal.returns
returns c = bitmask_splat w8 ltb c.args.window 16 c.args.limit c.fits-window.0 (omega arith)
