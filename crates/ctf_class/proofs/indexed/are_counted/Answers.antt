use Rattle.std.proofs.Common.{sym, ◌∙◌}
use Rattle.ctf_class.proofs.PlacesLemmas.{counted-more}
use Rattle.ctf_class.proofs.indexed.are_counted.Goals as goal

pub loop-place-preserved : goal.loop-place-preserved
loop-place-preserved g c =
    counted-more g.T.HasId.id_of c.args.items.now c.loop-place.place c.index-items-place.result c.loop-place-test.true c.index-items-place.is (sym c.id.ensures ∙ c.if-id-place.false) c.loop-place.invariant
