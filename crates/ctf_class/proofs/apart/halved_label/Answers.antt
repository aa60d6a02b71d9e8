use Rattle.std.proofs.Common.{◌≡◌, ℕ, true, ◌+◌, ◌-◌, ◌/◌, ◌≤ℤ◌, ◌<ℤ◌, sym, ap, subst, ◌∙◌, ⊎_elim, arith}
use Rattle.std.proofs.Math.Facts.{to_z-of_z}
use Rattle.std.proofs.lemmas.Int.{ints}
use Rattle.std.proofs.lemmas.Bool.{cases_lt}
use Rattle.ctf_class.specs.Labels.{covers, label_at}
use Rattle.ctf_class.specs.LabelSearch.{span_in, IsRanked}
use Rattle.ctf_class.proofs.LabelsLemmas.{covers-within, none-above, none-below, ranked}
use Rattle.ctf_class.proofs.apart.halved_label.Goals as goal

pub loop-low-preserved-then-number-span : goal.loop-low-preserved-then-number-span
loop-low-preserved-then-number-span c =
    let labels = c.args.labels.now in
    let order = c.args.order.now in
    let z = c.args.number in
    let so_far = rw (to_z-of_z c.ranges.number) at c.loop-low.invariant in
    let middle = c.loop-low.low + (c.loop-low.high - c.loop-low.low) / 2 in
    let span = c.span_at-span.result in
    let is : span ≡ span_in labels order middle = c.span_at-span.ensures ∙ ap (λ (k : ℕ). (label_at labels k).span) c.number_at-place.ensures in
    let less : z <ℤ span.first = omega (arith, ints) in
    let below : z <ℤ (span_in labels order middle).first = subst (λ s. z <ℤ s.first) is less in
    rw (to_z-of_z c.ranges.number) (record {
      within = omega (arith, so_far.within);
      below = so_far.below;
      above = λ k from within. none-above labels order c.args.count z middle k c.requires below from within;
    })

pub loop-low-preserved : goal.loop-low-preserved
loop-low-preserved c =
    let labels = c.args.labels.now in
    let order = c.args.order.now in
    let z = c.args.number in
    let so_far = rw (to_z-of_z c.ranges.number) at c.loop-low.invariant in
    let middle = c.loop-low.low + (c.loop-low.high - c.loop-low.low) / 2 in
    let span = c.span_at-span.result in
    let is : span ≡ span_in labels order middle = c.span_at-span.ensures ∙ ap (λ (k : ℕ). (label_at labels k).span) c.number_at-place.ensures in
    let over : span.last <ℤ z = omega (arith, ints) in
    let above : (span_in labels order middle).last <ℤ z = subst (λ s. s.last <ℤ z) is over in
    rw (to_z-of_z c.ranges.number) (record {
      within = so_far.within;
      below = λ k less within. none-below labels order c.args.count z middle k c.requires above less (omega (arith, so_far.within));
      above = so_far.above;
    })

pub returns-else-span-number : goal.returns-else-span-number
returns-else-span-number c =
    let labels = c.args.labels.now in
    let order = c.args.order.now in
    let z = c.args.number in
    let so_far = rw (to_z-of_z c.ranges.number) at c.loop-low.invariant in
    let middle = c.loop-low.low + (c.loop-low.high - c.loop-low.low) / 2 in
    let span = c.span_at-span.result in
    let is : span ≡ span_in labels order middle = c.span_at-span.ensures ∙ ap (λ (k : ℕ). (label_at labels k).span) c.number_at-place.ensures in
    let low : span.first ≤ℤ z = omega (arith, ints) in
    let high : z ≤ℤ span.last = omega (arith, ints) in
    let here : covers (span_in labels order middle) z ≡ true = ap (λ s. covers s z) (sym is) ∙ covers-within span z low high in
    subst (IsRanked labels order c.args.count z) (sym c.number_at-place.ensures) (ranked labels order c.args.count z middle c.requires (omega (arith, so_far.within)) here)

pub returns : goal.returns
returns c = λ rank inside.
    let so_far = rw (to_z-of_z c.ranges.number) at c.loop-low.invariant in
    ⊎_elim
    (λ low. so_far.below rank low inside)
    (λ high. so_far.above rank (omega arith) inside)
    (cases_lt rank c.loop-low.low)
