use Rattle.std.proofs.Common.{◌∙◌}
use Rattle.ctf_session.proofs.Pieces.{Sends-more, Sends-part}
use Rattle.std.proofs.lemmas.Result.{err_from_is_err_and}
use Rattle.ctf_session.proofs.writing.put_all.Goals as goal

pub loop-rest-preserved : goal.loop-rest-preserved
loop-rest-preserved g c = record {
  stays = λ tells. c.in_ok-count.ensures.stays (c.loop-rest.invariant.stays tells);
  sends = λ tells. rw c.split_at.ensures.back (Sends-more _ _ _ _ _ _ (c.loop-rest.invariant.sends tells) (c.in_ok-count.ensures.appends (c.loop-rest.invariant.stays tells)));
  failures = c.in_ok-count.ensures.failed ∙ c.loop-rest.invariant.failures;
  refusals = c.in_ok-count.ensures.refused ∙ c.loop-rest.invariant.refusals;
}

pub returns-in_err-count-clause-part : goal.returns-in_err-count-clause-part
returns-in_err-count-clause-part g c = λ tells.
    let failed = err_from_is_err_and c.from_residual.result c.from_residual.ensures.1 in
    rw (failed.1, c.in_err-count.ensures.appends (c.loop-rest.invariant.stays tells)) (Sends-part _ _ _ _ (c.loop-rest.invariant.sends tells))
