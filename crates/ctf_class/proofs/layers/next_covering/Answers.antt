use Rattle.std.proofs.Common.{◌≡◌, ◌+◌, [], get_or, sym, subst, arith}
use Rattle.std.proofs.Math.Facts.{to_z-of_z}
use Rattle.std.proofs.lemmas.List.{get_or_read}
use Rattle.ctf_class.proofs.LayersLemmas.{Nearest, nearest-none, nearest-new, nearest-kept, nearest-found, nearest-nowhere}
use Rattle.ctf_class.proofs.layers.next_covering.Goals as goal
use Rattle.ctf_class.proofs.layers.next_covering.Goals.{in-Some+then-begin-place+then-place-next, in-Some+else-begin-place, else-begin-place-via-then-begin-place+else-place-next, else-begin-place-via-else-begin-place, in_default}

pub loop-layer-preserved : goal.loop-layer-preserved
loop-layer-preserved c =
    let labels = c.args.labels.now in
    let layers = c.args.layers.now in
    let z = c.args.number in
    let begin = c.args.begin in
    let i = c.loop-layer.layer-index in
    let layer = c.layer-item.result in
    let is : layer ≡ get_or layers i [] = get_or_read layers i layer c.loop-layer-test.true c.layer-item.is [] in
    let so_far = rw (to_z-of_z c.ranges.number) at c.loop-layer.invariant in
    rw (to_z-of_z c.ranges.number) (elim c.match-place_in_layer.branch [
      | in-Some+then-begin-place+then-place-next w ↦
          subst (Nearest labels layers z begin (i + 1)) (sym w.next-is)
          (nearest-new labels layers layer z begin i c.loop-layer.next w.in-Some.place is (rw (to_z-of_z c.ranges.number) at w.in-Some.ensures) w.if-begin-place.true w.if-place-next.true so_far)
      | in-Some+else-begin-place w ↦
          subst (Nearest labels layers z begin (i + 1)) (sym w.next-is)
          (nearest-kept labels layers layer z begin i c.loop-layer.next w.in-Some.place is (rw (to_z-of_z c.ranges.number) at w.in-Some.ensures)
          (λ from. elim w.else-begin-place.branch [
            | else-begin-place-via-then-begin-place+else-place-next v ↦ omega (arith, v.if-place-next.false)
            | else-begin-place-via-else-begin-place v ↦ absurd (omega (arith, v.if-begin-place.false, from))
          ]) so_far)
      | in_default w ↦
          subst (Nearest labels layers z begin (i + 1)) (sym w.next-is)
          (nearest-none labels layers layer z begin i c.loop-layer.next is (rw (to_z-of_z c.ranges.number) at w.in_default.ensures) so_far)
    ])

pub returns-then-next-labels-clause-next : goal.returns-then-next-labels-clause-next
returns-then-next-labels-clause-next c =
    nearest-found c.args.labels.now c.args.layers.now c.args.number c.args.begin c.loop-layer.layer-index c.loop-layer.next (omega (arith, c.loop-layer-test.false)) c.requires c.if-next-labels.true (rw (to_z-of_z c.ranges.number) at c.loop-layer.invariant)

pub returns-else-next-labels-clause-next : goal.returns-else-next-labels-clause-next
returns-else-next-labels-clause-next c =
    nearest-nowhere c.args.labels.now c.args.layers.now c.args.number c.args.begin c.loop-layer.layer-index c.loop-layer.next (omega (arith, c.loop-layer-test.false)) c.requires (omega (arith, c.if-next-labels.false)) (rw (to_z-of_z c.ranges.number) at c.loop-layer.invariant)
