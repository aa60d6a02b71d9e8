use Rattle.std.proofs.Common.{List, ℕ, length, sym, subst}
use Rattle.ctf_class.specs.LabelSearch.{AreApart}
use Rattle.ctf_class.specs.Ranks.{HasRanks}
use Rattle.ctf_class.proofs.PlacesLemmas.{ranks-same, ranks-sorted}
use Rattle.ctf_class.proofs.labels.Search.of.Goals as goal

pub returns-then-are_apart : goal.returns-then-are_apart
returns-then-are_apart c =
    let labels = c.args.labels.now in
    subst (λ (order : List ℕ). AreApart labels order (length labels) × HasRanks labels order) (sym c.new.ensures) (c.are_apart.ensures c.if-are_apart.true, ranks-same labels)

pub returns-then-are_apart-2 : goal.returns-then-are_apart-2
returns-then-are_apart-2 c =
    let labels = c.args.labels.now in
    (subst (λ (order : List ℕ). AreApart labels order (length labels)) c.as_slice.ensures (c.are_apart-2.ensures c.if-are_apart-2.true), ranks-sorted labels c.in_ok-order.order c.in_ok-order.ensures)
