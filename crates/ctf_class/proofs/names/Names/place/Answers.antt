use Rattle.std.proofs.Common.{ℕ, List, sym, ap, subst, ◌∙◌}
use Rattle.std.specs.List.{position, position_from}
use Rattle.std.proofs.lemmas.Iterator.Adapters.{position_from-zero}
use Rattle.std.specs.Str.{bytes_eq}
use Rattle.ctf_class.specs.NamePlaces.{FindsNames}
use Rattle.ctf_class.proofs.names.Names.place.Goals as goal

pub returns-in-Ranked : goal.returns-in-Ranked
returns-in-Ranked c =
    let names = c.self.inside.names in
    let test = λ (w : List ℕ). bytes_eq w c.args.name.now in
    c.place_by_rank.ensures ∙ (ap (position_from test 0) c.as_slice-in-Ranked.ensures ∙ (sym (position_from-zero test names) ∙ ap (position test) c.self.view_is))

pub returns-in-Sorted : goal.returns-in-Sorted
returns-in-Sorted c =
    let names = c.self.inside.names in
    let word = c.args.name.now in
    let test = λ (w : List ℕ). bytes_eq w word in
    let kept = subst (FindsNames names) c.in-Sorted.is c.self.invariant in
    c.place.ensures ∙ (kept.places word ∙ (sym (position_from-zero test names) ∙ ap (position test) c.self.view_is))
