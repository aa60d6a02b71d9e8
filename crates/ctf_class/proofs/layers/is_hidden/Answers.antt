use Rattle.std.proofs.Common.{◌≡◌, ◌<◌, List, ℕ, [], length, get_or, sym, ap, ◌∙◌, arith}
use Rattle.std.specs.Str.{bytes_eq}
use Rattle.std.proofs.Math.Facts.{to_z-of_z}
use Rattle.std.proofs.lemmas.Bool.{and_from}
use Rattle.std.proofs.lemmas.List.{get_or_read}
use Rattle.ctf_class.specs.declared.span.Label.{Label}
use Rattle.ctf_class.specs.Labels.{covers, no_label, label_at}
use Rattle.ctf_class.proofs.LabelsLemmas.{one-before, stands}
use Rattle.ctf_class.proofs.LayersLemmas.{none-before-nowhere, none-before-other, none-before-all}
use Rattle.ctf_class.proofs.layers.is_hidden.Goals as goal
use Rattle.ctf_class.proofs.layers.is_hidden.Goals.{in-Some+else-before-place, else-before-place-via-then-before-place+else-have_one_name, else-before-place-via-else-before-place, in_default}

-- the names of two labels that were read
names-at : (labels : List Label) (before place : ℕ) (label other : Label) → before < length labels → place < length labels → label ≡ get_or labels before label → other ≡ get_or labels place other → bytes_eq label.name other.name ≡ bytes_eq (label_at labels before).name (label_at labels place).name
names-at labels before place label other early within is also =
    ap (λ (l : Label). bytes_eq l.name other.name) (get_or_read labels before label early is no_label)
    ∙ ap (λ (l : Label). bytes_eq (label_at labels before).name l.name) (get_or_read labels place other within also no_label)

pub returns-then-have_one_name : goal.returns-then-have_one_name
returns-then-have_one_name c =
    let labels = c.args.labels.now in
    let z = c.args.number in
    let place = c.args.place in
    let before = c.in-Some.before in
    let found = rw (to_z-of_z c.ranges.number) at c.in-Some.ensures in
    let named = names-at labels before place c.index-labels-before.result c.index-labels-place.result (stands labels before z found.here) c.requires.within c.index-labels-before.is c.index-labels-place.is in
    let same = sym named ∙ (sym c.have_one_name.ensures ∙ c.if-have_one_name.true) in
    sym (one-before labels z place before c.requires.within c.if-before-place.true (and_from (covers (label_at labels before).span z) (bytes_eq (label_at labels before).name (label_at labels place).name) found.here same))

pub loop-layer-preserved : goal.loop-layer-preserved
loop-layer-preserved c =
    let labels = c.args.labels.now in
    let layers = c.args.layers.now in
    let z = c.args.number in
    let place = c.args.place in
    let i = c.loop-layer.layer-index in
    let layer = c.layer-item.result in
    let is : layer ≡ get_or layers i [] = get_or_read layers i layer c.loop-layer-test.true c.layer-item.is [] in
    let so_far = rw (to_z-of_z c.ranges.number) at c.loop-layer.invariant in
    rw (to_z-of_z c.ranges.number) (elim c.match-place_in_layer.branch [
      | in-Some+else-before-place w ↦
          let before = w.in-Some.before in
          let found = rw (to_z-of_z c.ranges.number) at w.in-Some.ensures in
          none-before-other labels layers layer z place i before is found
          (λ early. elim w.else-before-place.branch [
            | else-before-place-via-then-before-place+else-have_one_name v ↦
                let named = names-at labels before place v.index-labels-before.result v.index-labels-place.result (stands labels before z found.here) c.requires.within v.index-labels-before.is v.index-labels-place.is in
                sym named ∙ (sym v.have_one_name.ensures ∙ v.if-have_one_name.false)
            | else-before-place-via-else-before-place v ↦ absurd (omega (arith, v.if-before-place.false, early))
          ]) so_far
      | in_default w ↦
          none-before-nowhere labels layers layer z place i is (rw (to_z-of_z c.ranges.number) at w.in_default.ensures) so_far
    ])

pub returns : goal.returns
returns c =
    sym (none-before-all c.args.labels.now c.args.layers.now c.args.number c.args.place c.loop-layer.layer-index (omega (arith, c.loop-layer-test.false)) c.requires.within c.requires.layers (rw (to_z-of_z c.ranges.number) at c.loop-layer.invariant))
