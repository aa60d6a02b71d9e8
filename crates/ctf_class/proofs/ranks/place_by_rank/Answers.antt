use Rattle.std.proofs.Common.{◌≡◌, [], ◌+◌, ◌-◌, ◌/◌, get_or, Some, Less, Equal, Greater, nat_cmp, sym, ap, ◌∙◌, ⊎_elim, arith}
use Rattle.std.specs.Cmp.Lexicographic.{slice_cmp}
use Rattle.std.proofs.lemmas.Bool.{cases_lt}
use Rattle.ctf_class.specs.NameRanks.{name_in}
use Rattle.ctf_class.proofs.RanksLemmas.{none-after, none-before, none-ranked, found-ranked}
use Rattle.ctf_class.proofs.ranks.place_by_rank.Goals as goal

pub loop-low-preserved-in-Less : goal.loop-low-preserved-in-Less
loop-low-preserved-in-Less c =
    let names = c.args.names.now in
    let order = c.args.order.now in
    let name = c.args.name.now in
    let so_far = c.loop-low.invariant in
    let middle = c.loop-low.low + (c.loop-low.high - c.loop-low.low) / 2 in
    let there : c.name_at.result.now ≡ name_in names order middle = c.name_at.ensures ∙ ap (λ k. get_or names k []) c.number_at-place.ensures in
    let less : slice_cmp nat_cmp name (name_in names order middle) ≡ Less = ap (slice_cmp nat_cmp name) (sym there) ∙ sym c.in-Less.ensures in
    record {
      within = omega (arith, so_far.within);
      below = so_far.below;
      above = λ k from within. none-after names order name middle k c.requires.ascending less from within;
    }

pub returns-in-Equal : goal.returns-in-Equal
returns-in-Equal c =
    let names = c.args.names.now in
    let order = c.args.order.now in
    let name = c.args.name.now in
    let middle = c.loop-low.low + (c.loop-low.high - c.loop-low.low) / 2 in
    let there : c.name_at.result.now ≡ name_in names order middle = c.name_at.ensures ∙ ap (λ k. get_or names k []) c.number_at-place.ensures in
    let same : slice_cmp nat_cmp name (name_in names order middle) ≡ Equal = ap (slice_cmp nat_cmp name) (sym there) ∙ sym c.in-Equal.ensures in
    ap Some c.number_at-place.ensures ∙ sym (found-ranked names order name middle c.requires.ascending c.requires.ranks (omega (arith, c.loop-low.invariant.within)) same)

pub loop-low-preserved : goal.loop-low-preserved
loop-low-preserved c =
    let names = c.args.names.now in
    let order = c.args.order.now in
    let name = c.args.name.now in
    let so_far = c.loop-low.invariant in
    let middle = c.loop-low.low + (c.loop-low.high - c.loop-low.low) / 2 in
    let there : c.name_at.result.now ≡ name_in names order middle = c.name_at.ensures ∙ ap (λ k. get_or names k []) c.number_at-place.ensures in
    let more : slice_cmp nat_cmp name (name_in names order middle) ≡ Greater = ap (slice_cmp nat_cmp name) (sym there) ∙ sym c.in-Greater.ensures in
    record {
      within = so_far.within;
      below = λ k less within. none-before names order name middle k c.requires.ascending more (omega arith) (omega (arith, so_far.within));
      above = so_far.above;
    }

pub returns : goal.returns
returns c =
    let so_far = c.loop-low.invariant in
    sym (none-ranked c.args.names.now c.args.order.now c.args.name.now c.requires.ranks (λ rank inside.
    ⊎_elim
    (λ low. so_far.below rank low inside)
    (λ high. so_far.above rank (omega arith) inside)
    (cases_lt rank c.loop-low.low)))
