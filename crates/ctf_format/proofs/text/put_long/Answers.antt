use Rattle.std.proofs.Common.{◌≡◌, ◌*◌, ◌/◌, ◌++◌, take, arith, ap, ◌∙◌}
use Rattle.ctf_class.specs.Escapes.{escaped}
use Rattle.ctf_format.proofs.TextLemmas.{step_more, rest_more}
use Rattle.ctf_format.proofs.text.put_long.Goals as goal

pub loop-i-preserved : goal.loop-i-preserved
loop-i-preserved c = record {
  near = omega arith;
  text = step_more c.args.bytes.now (take c.args.at c.args.line.now) _ _ c.loop-i.i c.loop-i.invariant.text c.put_step-to.ensures.text;
}

pub returns-clause-text : goal.returns-clause-text
returns-clause-text c =
    let steps = c.saturating_sub-steps.result / 16 in
    let all : 16 * c.loop-i.i ≡ 16 * steps = omega arith in
    let already = c.loop-i.invariant.text ∙ ap (λ n. take c.args.at c.args.line.now ++ escaped (take n c.args.bytes.now)) all in
    rest_more c.args.bytes.now (take c.args.at c.args.line.now) _ _ (16 * steps) already c.put_short.ensures.text
