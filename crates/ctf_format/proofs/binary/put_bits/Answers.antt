use Rattle.std.proofs.Common.{take, arith}
use Rattle.std.proofs.lemmas.List.{length-take-le}
use Rattle.ctf_format.proofs.BinaryLemmas.{sixteen_more, all_written}
use Rattle.ctf_format.proofs.binary.put_bits.Goals as goal

pub loop-i-preserved : goal.loop-i-preserved
loop-i-preserved c =
    sixteen_more c.loop-i.line c.put_lanes.new.line (take c.args.at c.args.line.now) c.glyphs-sixteen.result _ c.loop-i.i c.args.at (omega arith) c.loop-i.invariant c.glyphs-sixteen.ensures c.put_lanes.ensures

pub returns-clause-text : goal.returns-clause-text
returns-clause-text c =
    all_written c.loop-i.line (take c.args.at c.args.line.now) c.args.number c.args.count c.loop-i.i c.args.at c.requires.few (omega arith) (omega arith) (length-take-le c.args.at c.args.line.now (omega (arith, c.requires.room))) c.loop-i.invariant
