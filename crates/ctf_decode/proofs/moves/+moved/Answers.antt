use Rattle.std.proofs.Common.{◌≡◌, ◌++◌, ◌∙◌, ap, sym, subst, append-nil, IfOk}
use Rattle.ctf_decode.specs.Views.{form, val}
use Rattle.ctf_decode.proofs.Moved.{members_next, members_end, elements_next, option_here, option_none}
use Rattle.ctf_decode.proofs.moves.+moved.Goals as goal

pub put_chosen-returns-then-i-options : goal.put_chosen-returns-then-i-options
put_chosen-returns-then-i-options t c =
    sym (ap (λ xs. c.args.found.now.items ++ xs) (option_none c.args.options.now c.args.i (val c.args.inner.now) c.if-i-options.true) ∙ append-nil c.args.found.now.items)

pub put_chosen-returns : goal.put_chosen-returns
put_chosen-returns t c =
    let e = rw (← c.index-options-i.is) at c.put_moved.ensures in
    subst (λ xs. IfOk c.put_moved.result (λ _. c.put_moved.new.found.items ≡ c.args.found.now.items ++ xs)) (option_here c.args.options.now c.args.i c.index-options-i.result (val c.args.inner.now) c.if-i-options.false c.index-options-i.is) e

pub put_members-returns-then-i-values : goal.put_members-returns-then-i-values
put_members-returns-then-i-values t c =
    members_end c.loop-i.found.items c.args.members.now c.args.values.now c.loop-i.i c.if-i-values.true ∙ c.loop-i.invariant.moved

pub put_members-loop-i-preserved : goal.put_members-loop-i-preserved
put_members-loop-i-preserved t c = record {
  moved = rw (c.in_ok-put_moved.ensures) (members_next c.loop-i.found.items c.args.members.now c.args.values.now c.loop-i.i c.index-members-i.result c.index-values-i.result c.loop-i-test.true c.if-i-values.false c.index-members-i.is c.index-values-i.is ∙ c.loop-i.invariant.moved);
}

pub put_elements-loop-value-preserved : goal.put_elements-loop-value-preserved
put_elements-loop-value-preserved t c = record {
  moved = rw (c.in_ok-put_moved.ensures) (elements_next c.loop-value.found.items (form c.args.element.now) c.args.values.now c.loop-value.value-index c.value-item.result c.loop-value-test.true c.value-item.is ∙ c.loop-value.invariant.moved);
}
