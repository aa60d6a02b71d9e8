use Rattle.std.proofs.Common.{sym, ◌∙◌}
use Rattle.std.proofs.lemmas.Result.{err_from_is_err_and}
use Rattle.tsdl_parse.proofs.Loops.{starts, goes_on, ends, is_done}
use Rattle.tsdl_parse.proofs.part.parts_after.Goals as goal

pub turns-init : goal.turns-init
turns-init g c = rw (c.start-found.ensures.found, c.start-found.ensures.rest) (starts _ _ _ _)

pub returns-in_err-next-clause-reads : goal.returns-in_err-next-clause-reads
returns-in_err-next-clause-reads g c =
    let p = err_from_is_err_and c.from_residual.result c.from_residual.ensures.1 in
    let e = ends _ _ _ _ _ _ c.turns.invariant (g.met.P.Part.stops c.args.part.now) _ (sym c.comes.ensures ∙ c.turns-test.true) c.in_err-next.ensures.reads in
    rw (p.1, p.2) e

pub turns-preserved : goal.turns-preserved
turns-preserved g c =
    rw c.in_ok-push.ensures.items (goes_on _ _ _ _ _ _ c.turns.invariant _ _ (sym c.comes.ensures ∙ c.turns-test.true) c.in_ok-next.ensures.reads c.in_ok-next.ensures.shorter)

pub returns-clause-reads : goal.returns-clause-reads
returns-clause-reads g c =
    let e = is_done _ _ _ _ _ _ c.turns.invariant (sym c.comes.ensures ∙ c.turns-test.false) in
    rw (c.from_vec.ensures, c.shrink_to_fit.ensures.items) e
