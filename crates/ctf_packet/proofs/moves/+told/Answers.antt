use Rattle.std.proofs.Common.{◌∙◌, ap, refl}
use Rattle.std.specs.List.{last_or}
use Rattle.ctf_clock.specs.Clock.{advanced_by}
use Rattle.ctf_decode.specs.Views.{form, val}
use Rattle.ctf_decode.proofs.Numbered as numbered
use Rattle.ctf_packet.proofs.Moving.{members_next, members_stop, elements_next, elements_stop, option_here, option_none}
use Rattle.ctf_packet.proofs.moves.+told.Goals as goal

pub tell_chosen-returns-then-i-options-clause-clock : goal.tell_chosen-returns-then-i-options-clause-clock
tell_chosen-returns-then-i-options-clause-clock t c =
    ap (advanced_by c.args.timeline.now c.args.told.now.clock) (option_none c.args.options.now c.args.i (val c.args.inner.now) c.if-i-options.true)

pub tell_chosen-returns-then-i-options-clause-id : goal.tell_chosen-returns-then-i-options-clause-id
tell_chosen-returns-then-i-options-clause-id t c = λ _.
    ap (last_or c.args.told.now.id) (numbered.option_none c.args.options.now c.args.i (val c.args.inner.now) c.if-i-options.true)

pub tell_chosen-returns-clause-clock : goal.tell_chosen-returns-clause-clock
tell_chosen-returns-clause-clock t c =
    let e = rw (← c.index-options-i.is) at c.tell.ensures.clock in
    e ∙ ap (advanced_by c.args.timeline.now c.args.told.now.clock) (option_here c.args.options.now c.args.i c.index-options-i.result (val c.args.inner.now) c.if-i-options.false c.index-options-i.is)

pub tell_chosen-returns-clause-id : goal.tell_chosen-returns-clause-id
tell_chosen-returns-clause-id t c = λ is.
    let e = rw (← c.index-options-i.is) at c.tell.ensures.id in
    e is ∙ ap (last_or c.args.told.now.id) (numbered.option_here c.args.options.now c.args.i c.index-options-i.result (val c.args.inner.now) c.if-i-options.false c.index-options-i.is)

pub tell_elements-returns-then-not-tell-clause-clock : goal.tell_elements-returns-then-not-tell-clause-clock
tell_elements-returns-then-not-tell-clause-clock t c =
    elements_stop c.args.timeline.now c.loop-value.told.clock (form c.args.element.now) c.args.values.now c.loop-value.value-index c.value-item.result c.loop-value-test.true c.value-item.is c.if-not-tell.ensures.clock ∙ c.loop-value.invariant.0

pub tell_elements-loop-value-preserved : goal.tell_elements-loop-value-preserved
tell_elements-loop-value-preserved t c =
    let told = c.if-not-tell.ensures.id refl in (
      elements_next c.args.timeline.now c.loop-value.told.clock c.tell.new.told.clock (form c.args.element.now) c.args.values.now c.loop-value.value-index c.value-item.result c.loop-value-test.true c.value-item.is c.if-not-tell.ensures.clock ∙ c.loop-value.invariant.0,
      rw told (numbered.elements_next c.loop-value.told.id (form c.args.element.now) c.args.values.now c.loop-value.value-index c.value-item.result c.loop-value-test.true c.value-item.is ∙ c.loop-value.invariant.1),
    )

pub tell_members-returns-then-not-tell_member-clause-clock : goal.tell_members-returns-then-not-tell_member-clause-clock
tell_members-returns-then-not-tell_member-clause-clock t c =
    members_stop c.args.timeline.now c.loop-i.told.clock c.args.members.now c.args.values.now c.loop-i.i c.index-members-i.result c.index-values-i.result c.loop-i-test.true c.if-i-values.false c.index-members-i.is c.index-values-i.is c.if-not-tell_member.ensures.clock ∙ c.loop-i.invariant.0

pub tell_members-loop-i-preserved : goal.tell_members-loop-i-preserved
tell_members-loop-i-preserved t c =
    let told = c.if-not-tell_member.ensures.id refl in (
      members_next c.args.timeline.now c.loop-i.told.clock c.tell_member.new.told.clock c.args.members.now c.args.values.now c.loop-i.i c.index-members-i.result c.index-values-i.result c.loop-i-test.true c.if-i-values.false c.index-members-i.is c.index-values-i.is c.if-not-tell_member.ensures.clock ∙ c.loop-i.invariant.0,
      rw (told, c.named_id.ensures) (numbered.members_next c.loop-i.told.id c.args.members.now c.args.values.now c.loop-i.i c.index-members-i.result c.index-values-i.result c.loop-i-test.true c.if-i-values.false c.index-members-i.is c.index-values-i.is ∙ c.loop-i.invariant.1),
    )
