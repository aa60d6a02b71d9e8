use Rattle.std.proofs.Common.{sym, ◌∙◌, refl}
use Rattle.std.proofs.lemmas.Result.{err_from_is_err_and}
use Rattle.tsdl_parse.proofs.Loops.{starts, goes_on, ends_nil, is_done_nil}
use Rattle.tsdl_parse.proofs.classes.+classes.Goals as goal

pub items-turns-init : goal.items-turns-init
items-turns-init t c = rw (c.start-found.ensures.found, c.in_ok-room_for.ensures, c.start-found.ensures.rest) (starts _ _ _ _)

pub items-returns-in_err-next-clause-reads : goal.items-returns-in_err-next-clause-reads
items-returns-in_err-next-clause-reads t c =
    let p = err_from_is_err_and c.from_residual-in_err-next.result c.from_residual-in_err-next.ensures.1 in
    let e = ends_nil _ _ _ _ _ c.turns.invariant refl _ (sym c.goes_on-in-turns.ensures ∙ c.turns-test.true) c.in_err-next.ensures.reads in
    rw (p.1, p.2) e

pub items-turns-preserved : goal.items-turns-preserved
items-turns-preserved t c =
    rw c.in_ok-push.ensures.items (goes_on _ _ _ _ _ _ c.turns.invariant _ _ (sym c.goes_on-in-turns.ensures ∙ c.turns-test.true) c.in_ok-next.ensures.reads c.in_ok-next.ensures.shorter)

pub items-returns-clause-reads : goal.items-returns-clause-reads
items-returns-clause-reads t c =
    let e = is_done_nil _ _ _ _ _ c.turns.invariant (sym c.goes_on-in-turns.ensures ∙ c.turns-test.false) in
    rw (c.from_vec.ensures, c.shrink_to_fit.ensures.items) e
