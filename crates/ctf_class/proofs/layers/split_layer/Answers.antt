use Rattle.std.proofs.Common.{◌≡◌, ℕ, ◌+◌, ◌<◌, ◌≤ℤ◌, ◌<ℤ◌, ◌⊎◌, FitsSigned, to_z, List, [], ◌∷◌, ◌++◌, length, get_or, sym, subst, ◌∙◌, arith, rules}
use Rattle.std.specs.Int.{w128}
use Rattle.std.proofs.Math.Facts.{to_z-of_z}
use Rattle.std.proofs.lemmas.List.{get_or_default}
use Rattle.ctf_class.specs.LabelSearch.{span_in}
use Rattle.ctf_class.specs.Ranks.{place_in, Holds}
use Rattle.ctf_class.proofs.LabelsLemmas.{Ordered, ordered-all}
use Rattle.ctf_class.proofs.LayersLemmas.{layer-more, split-taken, split-left}
use Rattle.ctf_class.proofs.layers.split_layer.Goals as goal
use Rattle.ctf_class.proofs.layers.split_layer.Goals.{then-is_above+in_ok-push, else-is_above+in_ok-push-2}

pub loop-place-preserved : goal.loop-place-preserved
loop-place-preserved c =
    let labels = c.args.labels.now in
    let places = c.args.places.now in
    let i = c.loop-place.place-index in
    let last = get_or places i 0 in
    let layer = c.loop-place.layer in
    let left = c.loop-place.left in
    let here : last ≡ place_in places i = get_or_default places i 0 i c.loop-place-test.true in
    let all = c.loop-place.invariant.all in
    let new = c.if-is_above.layer in
    let kept = c.if-is_above.left in
    elim c.if-is_above.branch [
      | then-is_above+in_ok-push w ↦
          let span = c.span_at-span.result in
          let so_far = subst (Ordered (span_in labels layer) (length layer)) c.loop-place.before-is c.loop-place.invariant.apart in
          let over : c.loop-place.before <ℤ span.first = subst (λ b. b <ℤ span.first) c.loop-place.before-is (c.is_above.ensures.above w.if-is_above.true) in
          let forward : span.first ≤ℤ span.last = c.is_above.ensures.some w.if-is_above.true in
          let fits : FitsSigned w128 span.last = search rules in
          let pushed : new ≡ layer ++ last ∷ [] = w.layer-is ∙ w.in_ok-push.ensures.ok in
          record {
            apart = subst (Ordered (span_in labels new) (length new)) (sym (w.before-is ∙ to_z-of_z fits)) (layer-more labels layer new last c.loop-place.before span pushed c.span_at-span.ensures so_far over forward);
            all = subst (λ (ps : List ℕ). (k : ℕ) → k < i + 1 → Holds new (place_in places k) ⊎ Holds ps (place_in places k)) (sym w.left-is) (split-taken places layer new left i last here pushed all);
          }
      | else-is_above+in_ok-push-2 w ↦
          let pushed : kept ≡ left ++ last ∷ [] = w.left-is ∙ w.in_ok-push-2.ensures.ok in
          record {
            apart = subst (Ordered (span_in labels new) (length new)) (sym w.before-is) (subst (λ (ps : List ℕ). Ordered (span_in labels ps) (length ps) (to_z w128 c.loop-place.before-bits)) (sym w.layer-is) c.loop-place.invariant.apart);
            all = subst (λ (ps : List ℕ). (k : ℕ) → k < i + 1 → Holds ps (place_in places k) ⊎ Holds kept (place_in places k)) (sym w.layer-is) (split-left places layer left kept i last here pushed all);
          }
    ]

pub returns : goal.returns
returns c =
    let so_far = c.loop-place.invariant in
    record {
      apart = ordered-all c.args.labels.now c.loop-place.layer (length c.loop-place.layer) (length c.loop-place.layer) c.loop-place.before (omega arith) (subst (Ordered (span_in c.args.labels.now c.loop-place.layer) (length c.loop-place.layer)) c.loop-place.before-is so_far.apart);
      all = λ place held.
          let less = held.1 in
          subst (λ (p : ℕ). Holds c.loop-place.layer p ⊎ Holds c.loop-place.left p) held.2 (so_far.all held.0 (omega (arith, less, c.loop-place-test.false)));
    }
