use Rattle.std.proofs.Common.{sym, ◌∙◌, arith}
use Rattle.tsdl_parse.proofs.Runs.{run_more, run_stop, run_end}
use Rattle.tsdl_parse.proofs.typenames.run.Goals as goal

pub loop-token-preserved : goal.loop-token-preserved
loop-token-preserved c =
    omega (arith, c.loop-token.invariant.0, c.loop-token.invariant.1, run_more c.args.tokens.now c.loop-token.token-index _ c.loop-token-test.true c.token-item.is (sym c.is_typeword.ensures ∙ c.if-not-is_typeword.false))

pub returns-then-not-is_typeword-clause-count : goal.returns-then-not-is_typeword-clause-count
returns-then-not-is_typeword-clause-count c =
    omega (arith, c.loop-token.invariant.1, run_stop c.args.tokens.now c.loop-token.token-index _ c.loop-token-test.true c.token-item.is (sym c.is_typeword.ensures ∙ c.if-not-is_typeword.true))

pub returns-clause-count : goal.returns-clause-count
returns-clause-count c =
    omega (arith, c.loop-token.invariant.1, run_end c.args.tokens.now c.loop-token.token-index c.loop-token-test.false)
