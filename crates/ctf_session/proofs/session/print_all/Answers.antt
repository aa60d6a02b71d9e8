use Rattle.std.proofs.Common.{ap, refl, ◌∙◌}
use Rattle.ctf_session.specs.Steps.{Session, Counts}
use Rattle.ctf_session.specs.Passing.{still}
use Rattle.ctf_session.proofs.Ended.{went_open, not_both, answered_again}
use Rattle.ctf_session.proofs.Within.{goes_within, ends_within}
use Rattle.ctf_session.proofs.Reaching.{said, same_counts, reaches-start, reaches-more, reaches-end}
use Rattle.ctf_session.proofs.session.print_all.Goals as goal

pub loop-outcome-init : goal.loop-outcome-init
loop-outcome-init g c = record {
  open_still = λ e. e;
  unmoved = λ o e. (refl, (refl, refl));
  setting = refl;
  passes = λ a b d. still;
  counted = λ t. refl;
  on_line = λ l. l;
  all_taken = λ t l. l;
  tells = λ t. t;
  out_tells = λ t. t;
  err_tells = λ t. t;
  reaches = λ a b d. reaches-start _ _ _ _;
  out_failures = refl;
  out_refusals = refl;
  err_failures = refl;
  err_refusals = refl;
}

pub loop-outcome-preserved : goal.loop-outcome-preserved
loop-outcome-preserved g c =
    let before = c.loop-outcome.invariant in
    let step = c.in-Went.ensures in
    let open_ = went_open _ step.repeated in
    let counts = step.counts open_ in
    record {
      open_still = λ e. step.ends;
      unmoved = λ o e. absurd (not_both _ o open_ (ap (λ (s : Session). s.ended) (before.unmoved o e).0 ∙ e));
      setting = step.setting ∙ before.setting;
      passes = λ a b d. goes_within _ _ _ _ _ before.setting (before.passes a b d) step.readers (before.tells a).sources (step.steps (before.tells a) open_ (before.out_tells b) (before.err_tells d));
      counted = λ t. step.counted (before.tells t).sources ∙ before.counted t;
      on_line = λ l. step.on_line (before.on_line l);
      all_taken = λ t l. step.all_taken (before.tells t).sources (before.all_taken t l);
      tells = λ t. step.tells (before.tells t);
      out_tells = λ t. step.out_tells (before.out_tells t);
      err_tells = λ t. step.err_tells (before.err_tells t);
      reaches = λ a b d. reaches-more _ _ _ _ _ _ _ _ _ _ _ (before.reaches a b d) (step.steps (before.tells a) open_ (before.out_tells b) (before.err_tells d)) step.setting
          (λ nothing. ap g.W.Log.settled (step.quiet (before.tells a) open_ nothing).0) (said g.E.Sink.accepted _ _ _ step.settled);
      out_failures = ap (λ (k : Counts). k.out_failures) counts ∙ before.out_failures;
      out_refusals = ap (λ (k : Counts). k.out_refusals) counts ∙ before.out_refusals;
      err_failures = ap (λ (k : Counts). k.err_failures) counts ∙ before.err_failures;
      err_refusals = ap (λ (k : Counts). k.err_refusals) counts ∙ before.err_refusals;
    }

pub returns-in-Ended-clause-runs : goal.returns-in-Ended-clause-runs
returns-in-Ended-clause-runs g c = λ e a b d.
    let before = c.loop-outcome.invariant in
    let step = c.in-Ended.ensures in
    reaches-end _ _ _ _ _ _ _ _ _ _ _ (step.named (before.open_still e)) (before.reaches a b d) (step.steps (before.tells a) (before.open_still e) (before.out_tells b) (before.err_tells d))
    (λ nothing. ap g.W.Log.settled (step.quiet (before.tells a) (before.open_still e) nothing).0) (said g.E.Sink.accepted _ _ _ step.settled) (step.after (before.open_still e))

pub returns-in-Ended-clause-counts : goal.returns-in-Ended-clause-counts
returns-in-Ended-clause-counts g c = λ e.
    let before = c.loop-outcome.invariant in
    let counts = c.in-Ended.ensures.counts (before.open_still e) in
    rw (← before.out_failures, ← before.out_refusals, ← before.err_failures, ← before.err_refusals) counts

pub returns-in-Ended-clause-named : goal.returns-in-Ended-clause-named
returns-in-Ended-clause-named g c = λ e. c.in-Ended.ensures.named (c.loop-outcome.invariant.open_still e)

pub returns-in-Ended-clause-repeated : goal.returns-in-Ended-clause-repeated
returns-in-Ended-clause-repeated g c = λ o e.
    let before = c.loop-outcome.invariant in
    let step = c.in-Ended.ensures in
    let ended = ap (λ (s : Session). s.ended) (before.unmoved o e).0 ∙ e in
    let untouched = step.untouched o ended in (
      answered_again _ o _ ended step.repeated,
      (untouched.0 ∙ (before.unmoved o e).0, (untouched.1.0 ∙ (before.unmoved o e).1.0, untouched.1.1 ∙ (before.unmoved o e).1.1)),
    )

pub returns-in-Ended-clause-after : goal.returns-in-Ended-clause-after
returns-in-Ended-clause-after g c = λ e. c.in-Ended.ensures.after (c.loop-outcome.invariant.open_still e)

pub returns-in-Ended-clause-settled : goal.returns-in-Ended-clause-settled
returns-in-Ended-clause-settled g c =
    let before = c.loop-outcome.invariant in
    same_counts g.E.Sink.failures g.E.Sink.refusals _ _ _ _ before.err_failures before.err_refusals c.in-Ended.ensures.settled

pub returns-in-Ended-clause-setting : goal.returns-in-Ended-clause-setting
returns-in-Ended-clause-setting g c = c.in-Ended.ensures.setting ∙ c.loop-outcome.invariant.setting

pub returns-in-Ended-clause-passes : goal.returns-in-Ended-clause-passes
returns-in-Ended-clause-passes g c = λ a b d. ends_within _ _ _ _ (c.loop-outcome.invariant.passes a b d) c.in-Ended.ensures.readers

pub returns-in-Ended-clause-counted : goal.returns-in-Ended-clause-counted
returns-in-Ended-clause-counted g c = λ t.
    let before = c.loop-outcome.invariant in
    c.in-Ended.ensures.counted (before.tells t).sources ∙ before.counted t

pub returns-in-Ended-clause-on_line : goal.returns-in-Ended-clause-on_line
returns-in-Ended-clause-on_line g c = λ l. c.in-Ended.ensures.on_line (c.loop-outcome.invariant.on_line l)

pub returns-in-Ended-clause-all_taken : goal.returns-in-Ended-clause-all_taken
returns-in-Ended-clause-all_taken g c = λ t l.
    let before = c.loop-outcome.invariant in
    c.in-Ended.ensures.all_taken (before.tells t).sources (before.all_taken t l)
