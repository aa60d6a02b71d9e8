use Rattle.std.proofs.Common.{◌≡◌, ℕ, ◌≤ℤ◌, ◌<ℤ◌, FitsSigned, ap, subst, ◌∙◌, arith, rules}
use Rattle.std.specs.Int.{w128}
use Rattle.std.proofs.Math.Facts.{to_z-of_z}
use Rattle.std.proofs.lemmas.Int.{ints}
use Rattle.ctf_class.specs.Labels.{label_at}
use Rattle.ctf_class.specs.LabelSearch.{span_in}
use Rattle.ctf_class.proofs.LabelsLemmas.{Ordered, ordered-more}
use Rattle.ctf_class.proofs.apart.are_apart.Goals as goal

pub loop-rank-preserved : goal.loop-rank-preserved
loop-rank-preserved c =
    let labels = c.args.labels.now in
    let order = c.args.order.now in
    let i = c.loop-rank.rank in
    let span = c.span_at-span.result in
    let is : span ≡ span_in labels order i = c.span_at-span.ensures ∙ ap (λ (k : ℕ). (label_at labels k).span) c.number_at.ensures in
    let so_far = subst (Ordered (span_in labels order) i) c.loop-rank.before-is c.loop-rank.invariant in
    let over : c.loop-rank.before <ℤ span.first = omega (arith, ints) in
    let forward : span.first ≤ℤ span.last = omega (arith, ints) in
    let fits : FitsSigned w128 span.last = search rules in
    rw (to_z-of_z fits) (ordered-more (span_in labels order) i c.loop-rank.before span is so_far over forward)
