use Rattle.std.proofs.Common.{arith}
use Rattle.std.proofs.lemmas.Int.{ints}
use Rattle.ctf_clock.proofs.Times.{same_line}
use Rattle.ctf_clock.proofs.timeline.Timeline.new.Goals as goal

pub overflow_add-result : goal.overflow_add-result
overflow_add-result c = omega (arith, ints)

pub invariant_of-result : goal.invariant_of-result
invariant_of-result c = (omega (arith, ints), omega (arith, ints))

pub returns : goal.returns
returns c = same_line _ _ _ _ c.args.clock.now.frequency (omega (arith, ints)) (omega (arith, ints))
