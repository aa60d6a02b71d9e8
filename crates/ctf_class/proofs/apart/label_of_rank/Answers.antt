use Rattle.std.proofs.Common.{◌≡◌, ℕ, true, sym, ap, subst, ◌∙◌}
use Rattle.std.proofs.Math.Facts.{to_z-of_z}
use Rattle.ctf_class.specs.Labels.{covers, label_at}
use Rattle.ctf_class.specs.LabelSearch.{span_in, IsRanked}
use Rattle.ctf_class.proofs.LabelsLemmas.{ranked}
use Rattle.ctf_class.proofs.apart.label_of_rank.Goals as goal

pub returns-then-covers : goal.returns-then-covers
returns-then-covers c =
    let labels = c.args.labels.now in
    let order = c.args.order.now in
    let z = c.args.number in
    let rank = c.args.rank in
    let tested = rw (to_z-of_z c.ranges.number) at c.covers.ensures.is in
    let is : c.span_at.result ≡ span_in labels order rank = c.span_at.ensures ∙ ap (λ (k : ℕ). (label_at labels k).span) c.number_at-place.ensures in
    let here : covers (span_in labels order rank) z ≡ true = ap (λ s. covers s z) (sym is) ∙ (sym tested ∙ c.if-covers.true) in
    subst (IsRanked labels order c.args.count z) (sym c.number_at-place.ensures) (ranked labels order c.args.count z rank c.requires.apart c.requires.within here)
