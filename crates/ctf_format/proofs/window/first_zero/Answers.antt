use Rattle.std.proofs.Common.{Some, None, ◌∙◌}
use Rattle.ctf_format.proofs.WindowLemmas.{zero_after}
use Rattle.ctf_format.proofs.window.first_zero.Goals as goal

pub returns-in_err-rest-clause-first : goal.returns-in_err-rest-clause-first
returns-in_err-rest-clause-first c =
    c.from_residual.ensures ∙ zero_after c.args.bytes.now c.count_without_zero-begin.result None c.count_without_zero-begin.ensures.bounded c.count_without_zero-begin.ensures.none c.in_err-rest.ensures.first

pub returns-clause-first : goal.returns-clause-first
returns-clause-first c =
    zero_after c.args.bytes.now c.count_without_zero-begin.result (Some c.in_ok-rest.rest) c.count_without_zero-begin.ensures.bounded c.count_without_zero-begin.ensures.none c.in_ok-rest.ensures.first
