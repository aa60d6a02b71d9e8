use Rattle.std.proofs.Common.{◌+◌, arith}
use Rattle.std.proofs.lemmas.Simd.{take_more_put_chunk}
use Rattle.ctf_format.proofs.hexadecimal.put_lanes.Goals as goal

pub returns : goal.returns
returns c = take_more_put_chunk c.args.at c.args.line.now c.args.lanes (c.args.at + 16) (omega (arith, c.fits-lanes.0)) c.requires
