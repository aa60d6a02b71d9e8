use Rattle.std.proofs.Common.{◌≡◌, ℕ, ◌<◌, List, length, take, get_or, sym, ap, ◌∙◌}
use Rattle.std.proofs.Math.Facts.{to_z-of_z}
use Rattle.std.proofs.lemmas.List.{get_or_default}
use Rattle.ctf_class.specs.declared.span.Label.{Label}
use Rattle.ctf_class.specs.Choices.{option_named}
use Rattle.ctf_class.specs.Labels.{no_label, label_at}
use Rattle.ctf_class.proofs.ChoicesLemmas.{shown_none, shown_option, shown_silent}
use Rattle.ctf_class.proofs.choices.Named.look_up.Goals as goal

-- the option of the label that was read
named_at : (names : List (List ℕ)) (labels read : List Label) (place : ℕ) (label : Label) → read ≡ labels → place < length labels → label ≡ get_or read place label → option_named names (label_at labels place).name ≡ option_named names label.name
named_at names labels read place label same within is =
    ap (λ (l : Label). option_named names l.name) (get_or_default labels place no_label label within ∙ sym (is ∙ ap (λ ls. get_or ls place label) same))

pub returns-in-Some-option_by : goal.returns-in-Some-option_by
returns-in-Some-option_by c =
    let self = c.args.self.now in
    let names = take self.count self.names in
    let place = c.in-Some.place in
    let so_far = rw (to_z-of_z c.ranges.number) at c.loop-place.invariant in
    let next = rw (to_z-of_z c.ranges.number, c.get-labels.ensures) at c.in-Some.ensures.next in
    let named = named_at names self.labels c.as_slice.result.now place c.index-as_slice-place.result (c.as_slice.ensures ∙ c.get-labels.ensures) next.within c.index-as_slice-place.is in
    sym (shown_option names self.labels c.args.number c.loop-place.begin place c.in-Some-option_by.option so_far next (named ∙ sym c.in-Some-option_by.ensures))

pub loop-place-preserved : goal.loop-place-preserved
loop-place-preserved c =
    let self = c.args.self.now in
    let names = take self.count self.names in
    let place = c.in-Some.place in
    let so_far = rw (to_z-of_z c.ranges.number) at c.loop-place.invariant in
    let next = rw (to_z-of_z c.ranges.number, c.get-labels.ensures) at c.in-Some.ensures.next in
    let named = named_at names self.labels c.as_slice.result.now place c.index-as_slice-place.result (c.as_slice.ensures ∙ c.get-labels.ensures) next.within c.index-as_slice-place.is in
    rw (to_z-of_z c.ranges.number) (shown_silent names self.labels c.args.number c.loop-place.begin place so_far next (named ∙ sym c.in_default-option_by.ensures))

pub returns : goal.returns
returns c =
    let self = c.args.self.now in
    let so_far = rw (to_z-of_z c.ranges.number) at c.loop-place.invariant in
    let none = rw (to_z-of_z c.ranges.number, c.get-labels.ensures) at c.in_default.ensures.next in
    sym (shown_none (take self.count self.names) self.labels c.args.number c.loop-place.begin so_far none)
