use Rattle.std.proofs.Common.{arith}
use Rattle.tsdl_text.proofs.Digits.{Counted-more}
use Rattle.tsdl_text.proofs.string.digit_count.Goals as goal

pub loop-count-init : goal.loop-count-init
loop-count-init c = record { few = omega arith; within = omega arith; passed = omega arith }

pub loop-count-preserved : goal.loop-count-preserved
loop-count-preserved c =
    Counted-more c.args.base c.args.most c.args.text.now c.loop-count.count c.digit_value.result c.loop-count-test.true c.if-count-text.true c.digit_value.ensures c.if-digit_value-base.true c.loop-count.invariant
