use Rattle.std.proofs.Common.{ap, ◌∙◌, eqb}
use Rattle.std.specs.List.{position_from}
use Rattle.ctf_class.specs.Places.{place_of}
use Rattle.ctf_class.proofs.indexed.Indexed.place.Goals as goal

pub returns : goal.returns
returns g c =
    let test = λ (item : g.row.T.Denot). eqb (g.T.HasId.id_of item) c.args.id in
    let counted = ap (λ n. place_of c.self.inside.places n c.args.id) c.len.ensures in
    c.at.ensures ∙ (counted ∙ (c.self.invariant.firsts c.args.id ∙ ap (position_from test 0) c.self.view_is))
