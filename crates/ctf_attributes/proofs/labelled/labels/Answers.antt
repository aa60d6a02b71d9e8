use Rattle.std.proofs.Common.{◌≡◌, pos, int_lt, ◌+ℤ◌, to_z, of_z, rules, ◌∙◌}
use Rattle.std.proofs.lemmas.Int.{ints, to_z-of_z}
use Rattle.std.specs.Int.{w128}
use Rattle.ctf_attributes.specs.Spans.{is_numberless, span_of}
use Rattle.ctf_attributes.proofs.FirstLemmas.{handed}
use Rattle.ctf_attributes.proofs.LabelLemmas.{label-first, none-wrong, so_far-more, numbers-more, forward-more, bounded-more}
use Rattle.ctf_attributes.proofs.labelled.labels.Goals as goal

pub returns-in_err-span : goal.returns-in_err-span
returns-in_err-span c =
    let f = c.in_err-span.field-0.0 in
    record { told = handed _ _ _ f c.from_residual-in_err-span.ensures (label-first c.args.labels.now c.loop-label.label-index c.label-item.result c.loop-label.numbered _ f c.loop-label-test.true c.label-item.is c.loop-label.invariant.so_far c.loop-label.invariant.numbers c.in_err-span.ensures.told) }

pub loop-label-preserved : goal.loop-label-preserved
loop-label-preserved c =
    let last = c.in_ok-span.span.last in
    let later : to_z w128 (of_z w128 (to_z w128 (of_z w128 last) +ℤ pos 1)) ≡ last +ℤ pos 1 = search (rules, ints, to_z-of_z, c.in_ok-span.ensures.bounded, c.loop-label.invariant.bounded) in
    let ls = c.args.labels.now in
    let i = c.loop-label.label-index in
    let l = c.label-item.result in
    let told = c.in_ok-span.ensures.told in
    let clean = none-wrong (is_numberless l.span) (int_lt (span_of _ l.span).last (span_of _ l.span).first) told.0 in
    let named = c.in_ok-new.ensures ∙ (c.in_ok-name.ensures ∙ c.as_slice.ensures) in
    record {
      so_far = so_far-more ls i l c.loop-label.numbered c.push.new.self _ _ c.in_ok-new.field-0 c.in_ok-span.span c.loop-label-test.true c.label-item.is c.loop-label.invariant.so_far named told.1 c.in_ok-push.ensures.ok later;
      numbers = numbers-more ls i l c.loop-label-test.true c.label-item.is c.loop-label.invariant.numbers clean.0;
      forward = forward-more c.loop-label.numbered c.push.new.self _ l c.in_ok-new.field-0 c.in_ok-span.span c.loop-label.invariant.forward told.1 c.in_ok-push.ensures.ok clean.1;
      bounded = bounded-more _ _ last i c.loop-label.invariant.bounded later c.in_ok-span.ensures.bounded;
    }
