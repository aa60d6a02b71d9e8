use Rattle.std.proofs.Common.{◌≡◌, ℕ, true, false, not, ◌-◌, ◌<◌, length, sym, ap, subst, ◌∙◌, arith}
use Rattle.std.proofs.Math.Facts.{to_z-of_z}
use Rattle.ctf_class.specs.Labels.{covers, label_at}
use Rattle.ctf_class.specs.LabelSearch.{IsLast}
use Rattle.ctf_class.proofs.LabelsLemmas.{walk-more, walk-found, walk-ends}
use Rattle.ctf_class.proofs.chain.is_first.Goals as goal

pub returns-then-covers : goal.returns-then-covers
returns-then-covers c =
    let labels = c.args.labels.now in
    let z = c.args.number in
    let end = c.loop-end.end in
    let walked = rw (to_z-of_z c.ranges.number) at c.loop-end.invariant in
    let tested = rw (to_z-of_z c.ranges.number) at c.covers.ensures.is in
    let here : covers (label_at labels (end - 1)).span z ≡ true = ap (λ s. covers s z) (sym c.span_at.ensures) ∙ (sym tested ∙ c.if-covers.true) in
    sym (ap not (walk-found labels z c.args.place end c.requires.within c.loop-end-test.true walked here))

pub loop-end-preserved : goal.loop-end-preserved
loop-end-preserved c =
    let labels = c.args.labels.now in
    let z = c.args.number in
    let end = c.loop-end.end in
    let walked = rw (to_z-of_z c.ranges.number) at c.loop-end.invariant in
    let tested = rw (to_z-of_z c.ranges.number) at c.covers.ensures.is in
    let other : covers (label_at labels (end - 1)).span z ≡ false = ap (λ s. covers s z) (sym c.span_at.ensures) ∙ (sym tested ∙ c.if-covers.false) in
    let inside : end - 1 < length labels = omega (arith, walked.within, c.requires.within) in
    let last = subst (λ (n : ℕ). IsLast labels (end - 1) (label_at labels (end - 1)).name n) (sym c.number_at-end-in-loop-end.ensures) (c.requires.chain.links (end - 1) inside) in
    rw (to_z-of_z c.ranges.number) (walk-more labels z c.args.place end c.number_at-end-in-loop-end.result c.loop-end-test.true walked other last)

pub returns : goal.returns
returns c =
    let walked = rw (to_z-of_z c.ranges.number) at c.loop-end.invariant in
    sym (ap not (walk-ends c.args.labels.now c.args.number c.args.place c.loop-end.end c.loop-end-test.false walked))
