use Rattle.std.proofs.Common.{◌≡◌, ◌++◌, ◌∷◌, List, ℕ, length, ap, ◌∙◌, arith, codes}
use Rattle.std.specs.Vec.Iter.{into_iter_items}
use Rattle.ctf_session.proofs.Opened.{taken_more}
use Rattle.ctf_run.proofs.Shown.{joined_more}
use Rattle.ctf_run.proofs.naming.join_names.Goals as goal

pub loop-name-preserved : goal.loop-name-preserved
loop-name-preserved g c =
    let steps : into_iter_items c.loop-name.name-iterator ≡ (c.in-Some.name, c.in-Some.source) ∷ into_iter_items c.next.new.self = c.in-Some.ensures.steps.0 in
    record {
      whole = taken_more c.loop-name.yielded _ _ _ _ c.loop-name.invariant.whole steps;
      rest =
          let was = c.loop-name.invariant.rest in
          let gone = c.in-Some.ensures.steps.1 in
          let short = ap length steps in
          omega arith;
      shown = λ given. rw c.in_ok-push.ensures.items (joined_more given c.args.trace.now c.loop-name.joined.items c.loop-name.yielded (c.in_ok-shown_name.field-0, c.in-Some.source) (c.in-Some.name, c.in-Some.source)
          (c.loop-name.invariant.shown given) (ap (λ (n : List ℕ). record { name = n; given = given c.in-Some.source }) (c.in_ok-shown_name.ensures ∙ ap (λ (n : List ℕ). c.args.trace.now ++ (codes "/" ++ n)) c.deref.ensures)));
    }
