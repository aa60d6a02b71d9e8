use Rattle.std.proofs.Common.{◌+◌, ◌∙◌, ap, drop, option_map}
use Rattle.std.specs.Prelude.{option_and_then}
use Rattle.std.specs.Option.{option_copied}
use Rattle.ctf_decode.specs.Values.{down}
use Rattle.ctf_decode.specs.Views.{val}
use Rattle.ctf_decode.proofs.Views.{down_other, down_group}
use Rattle.ctf_decode.proofs.find.down.Goals as goal

pub returns-in_default : goal.returns-in_default
returns-in_default c =
    down_other c.args.steps.now c.loop-step.step-index c.loop-step.at.now c.loop-step-test.true c.in_default.not-Group ∙ c.loop-step.invariant

pub returns-in_err-at : goal.returns-in_err-at
returns-in_err-at c =
    let is = c.args.steps.now in
    let i = c.loop-step.step-index in
    ap (λ o. option_map val (option_copied o)) c.from_residual.ensures
    ∙ ap (λ o. option_and_then (down (drop (i + 1) is)) (option_map val o)) (rw c.as_slice.ensures at c.in_err-at.ensures)
    ∙ down_group is i c.loop-step.at.now c.in-Group.members c.loop-step-test.true c.in-Group.is ∙ c.loop-step.invariant

pub loop-step-preserved : goal.loop-step-preserved
loop-step-preserved c =
    let is = c.args.steps.now in
    let i = c.loop-step.step-index in
    ap (λ o. option_and_then (down (drop (i + 1) is)) (option_map val o)) (rw c.as_slice.ensures at c.in_ok-at.ensures)
    ∙ down_group is i c.loop-step.at.now c.in-Group.members c.loop-step-test.true c.in-Group.is ∙ c.loop-step.invariant
