use Rattle.std.proofs.Common.{arith}
use Rattle.ctf_fetch.proofs.Bytes.{kept_after}
use Rattle.ctf_fetch.proofs.buffer.take_after.Goals as goal

pub returns-clause-kept : goal.returns-clause-kept
returns-clause-kept g c = λ tells.
    kept_after (g.S.Source.ending c.args.source.now) c.args.filled c.args.bytes.now c.take.new.buf _ (g.S.Source.left c.args.source.now) (g.S.Source.left c.take.new.self) c.take.result
    (omega (arith, c.requires.some, c.requires.there)) c.take.ensures.bound (c.take.ensures.given tells)
