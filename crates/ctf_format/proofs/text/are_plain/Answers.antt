use Rattle.std.proofs.Common.{subst, arith}
use Rattle.std.proofs.lemmas.List.{take_all}
use Rattle.std.specs.List.{All}
use Rattle.ctf_format.proofs.TextLemmas.{IsPlain, plain_more}
use Rattle.ctf_format.proofs.text.are_plain.Goals as goal

pub loop-byte-preserved : goal.loop-byte-preserved
loop-byte-preserved c = plain_more c.loop-byte.plain c.is_plain-plain.result c.args.bytes.now c.loop-byte.byte-index (omega arith) c.loop-byte.invariant c.is_plain-plain.ensures

pub returns : goal.returns
returns c = λ plain. subst (All IsPlain) (take_all c.loop-byte.byte-index c.args.bytes.now (omega arith)) (c.loop-byte.invariant plain)
