use Rattle.std.proofs.Common.{◌∙◌, ap}
use Rattle.std.specs.List.{last_or}
use Rattle.ctf_decode.specs.Views.{form, val}
use Rattle.ctf_decode.proofs.Numbered.{members_next, members_end, elements_next, option_here, option_none}
use Rattle.ctf_decode.proofs.ids.+ids.Goals as goal

pub last_in_members-returns-then-i-values : goal.last_in_members-returns-then-i-values
last_in_members-returns-then-i-values t c =
    members_end c.loop-i.last c.args.members.now c.args.values.now c.loop-i.i c.if-i-values.true ∙ c.loop-i.invariant

pub last_in_members-loop-i-preserved : goal.last_in_members-loop-i-preserved
last_in_members-loop-i-preserved t c =
    rw (c.last_in.ensures, c.named_id.ensures) (members_next c.loop-i.last c.args.members.now c.args.values.now c.loop-i.i c.index-members-i.result c.index-values-i.result c.loop-i-test.true c.if-i-values.false c.index-members-i.is c.index-values-i.is ∙ c.loop-i.invariant)

pub last_in_elements-loop-value-preserved : goal.last_in_elements-loop-value-preserved
last_in_elements-loop-value-preserved t c =
    rw (c.last_in.ensures) (elements_next c.loop-value.last (form c.args.element.now) c.args.values.now c.loop-value.value-index c.value-item.result c.loop-value-test.true c.value-item.is ∙ c.loop-value.invariant)

pub last_in_chosen-returns-then-i-options : goal.last_in_chosen-returns-then-i-options
last_in_chosen-returns-then-i-options t c =
    let e = rw (← c.index-options-i.is) at c.last_in.ensures in
    e ∙ ap (last_or c.args.last.now) (option_here c.args.options.now c.args.i c.index-options-i.result (val c.args.inner.now) c.if-i-options.true c.index-options-i.is)

pub last_in_chosen-returns-else-i-options : goal.last_in_chosen-returns-else-i-options
last_in_chosen-returns-else-i-options t c =
    ap (last_or c.args.last.now) (option_none c.args.options.now c.args.i (val c.args.inner.now) c.if-i-options.false)
