use Rattle.std.proofs.Common.{◌≡◌, true, ◌-◌, sym, ap, subst, ◌∙◌, arith}
use Rattle.std.proofs.Math.Facts.{to_z-of_z}
use Rattle.ctf_class.specs.Labels.{covers, label_at, FindsNext}
use Rattle.ctf_class.proofs.LabelsLemmas.{only_shown, none_later, none_covering, none_of_ranks}
use Rattle.ctf_class.proofs.apart.next_apart.Goals as goal

pub returns-then-covers : goal.returns-then-covers
returns-then-covers c =
    let labels = c.args.labels.now in
    let z = c.args.number in
    let tested = rw (to_z-of_z c.ranges.number) at c.covers.ensures.is in
    let here : covers (label_at labels (c.args.begin - 1)).span z ≡ true = ap (λ s. covers s z) (sym c.span_at.ensures) ∙ (sym tested ∙ c.if-covers.true) in
    none_later labels c.args.order.now z c.args.begin (c.args.begin - 1) c.requires.apart c.requires.ranks here (omega arith)

pub returns-then-place-begin : goal.returns-then-place-begin
returns-then-place-begin c =
    none_later c.args.labels.now c.args.order.now c.args.number c.args.begin c.in_ok-place.place c.requires.apart c.requires.ranks (rw (to_z-of_z c.ranges.number) at c.in_ok-place.ensures).here c.if-place-begin.true

pub returns : goal.returns
returns c =
    only_shown c.args.labels.now c.args.order.now c.args.number c.args.begin c.in_ok-place.place c.requires.apart c.requires.ranks (rw (to_z-of_z c.ranges.number) at c.in_ok-place.ensures).here c.if-place-begin.false

pub returns-in_err-place : goal.returns-in_err-place
returns-in_err-place c =
    let labels = c.args.labels.now in
    let none = none_covering labels c.args.number c.args.begin (none_of_ranks labels c.args.order.now c.args.number c.requires.ranks (rw (to_z-of_z c.ranges.number) at c.in_err-place.ensures)) in
    subst (FindsNext labels c.args.number c.args.begin) (sym c.from_residual.ensures) none
