use Rattle.std.proofs.Common.{List, ℕ, sym, subst}
use Rattle.ctf_class.specs.NameRanks.{AreAscending}
use Rattle.ctf_class.specs.Ranks.{HasRanks}
use Rattle.ctf_class.proofs.PlacesLemmas.{ranks-same, ranks-sorted}
use Rattle.ctf_class.proofs.names.Places.of.Goals as goal

pub returns-then-are_ascending : goal.returns-then-are_ascending
returns-then-are_ascending c =
    let names = c.args.names.now in
    subst (λ (order : List ℕ). AreAscending names order × HasRanks names order) (sym c.new.ensures) (c.are_ascending.ensures c.if-are_ascending.true, ranks-same names)

pub returns-then-are_ascending-2 : goal.returns-then-are_ascending-2
returns-then-are_ascending-2 c =
    let names = c.args.names.now in
    (subst (AreAscending names) c.as_slice.ensures (c.are_ascending-2.ensures c.if-are_ascending-2.true), ranks-sorted names c.in_ok-order.order c.in_ok-order.ensures)
