use Rattle.std.proofs.Common.{List, length, sym, ap, ◌∙◌, eqb}
use Rattle.std.specs.List.{find, slice_get}
use Rattle.std.specs.Option.{option_copied}
use Rattle.ctf_class.specs.Places.{place_of}
use Rattle.ctf_class.proofs.PlacesLemmas.{find-at_place, find-nowhere}
use Rattle.ctf_class.proofs.indexed.Indexed.get.Goals as goal

pub returns-in_err-place : goal.returns-in_err-place
returns-in_err-place g c =
    let items = c.self.inside.items in
    let test = λ (item : g.row.T.Denot). eqb (g.T.HasId.id_of item) c.args.id in
    let counted = ap (λ (xs : List g.row.T.Denot). place_of c.self.inside.places (length xs) c.args.id) c.as_slice-items.ensures in
    let nowhere = find-nowhere test items (sym (c.in_err-place.ensures ∙ (counted ∙ c.self.invariant.firsts c.args.id))) in
    ap option_copied c.from_residual.ensures ∙ (sym nowhere ∙ ap (find test) c.self.view_is)

pub returns : goal.returns
returns g c =
    let items = c.self.inside.items in
    let test = λ (item : g.row.T.Denot). eqb (g.T.HasId.id_of item) c.args.id in
    let counted = ap (λ (xs : List g.row.T.Denot). place_of c.self.inside.places (length xs) c.args.id) c.as_slice-items.ensures in
    let found = find-at_place test items c.in_ok-place.place (sym (c.in_ok-place.ensures ∙ (counted ∙ c.self.invariant.firsts c.args.id))) in
    c.item_at.ensures ∙ (ap (λ (xs : List g.row.T.Denot). slice_get xs c.in_ok-place.place) c.as_slice-items.ensures ∙ (sym found ∙ ap (find test) c.self.view_is))
