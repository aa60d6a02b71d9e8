use Rattle.std.proofs.Common.{subst, sym, ◌∙◌}
use Rattle.std.proofs.Math.Facts.{to_z-of_z}
use Rattle.ctf_class.specs.Layers.{IsNextCovering}
use Rattle.ctf_class.proofs.LayersLemmas.{shown-first, first-of-all}
use Rattle.ctf_class.proofs.layers.next_layered.Goals as goal
use Rattle.ctf_class.proofs.layers.next_layered.Goals.{then-from-eq0-via-then-from-eq0, then-from-eq0-via-else-from-eq0+then-not-is_hidden}

pub returns-then-from-eq0 : goal.returns-then-from-eq0
returns-then-from-eq0 c =
    let labels = c.args.labels.now in
    let z = c.args.number in
    let from = c.loop-place.from in
    let place = c.in-Some.place in
    let so_far = rw (to_z-of_z c.ranges.number) at c.loop-place.invariant in
    let next = rw (to_z-of_z c.ranges.number) at c.in-Some.ensures.next in
    shown-first labels z c.args.begin from place so_far.after so_far.none next
    (elim c.then-from-eq0.branch [
      | then-from-eq0-via-then-from-eq0 w ↦ first-of-all labels z place (subst (λ n. IsNextCovering labels z n place) w.if-from-eq0.true next)
      | then-from-eq0-via-else-from-eq0+then-not-is_hidden w ↦ sym (rw (to_z-of_z c.ranges.number) at w.is_hidden.ensures) ∙ w.if-not-is_hidden.true
    ])
