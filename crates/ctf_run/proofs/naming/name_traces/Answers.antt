use Rattle.std.proofs.Common.{◌≡◌, ◌∷◌, [], ◌<◌, length, refl, ap, arith}
use Rattle.std.proofs.lemmas.List.{length-append}
use Rattle.std.proofs.lemmas.Option.{slice_get_read}
use Rattle.std.specs.Vec.Iter.{into_iter_items}
use Rattle.ctf_session.proofs.Opened.{taken_more}
use Rattle.ctf_run.proofs.Shown.{trace_more, one_longer}
use Rattle.ctf_run.proofs.naming.name_traces.Goals as goal

pub loop-trace-preserved : goal.loop-trace-preserved
loop-trace-preserved g c =
    let steps : into_iter_items c.loop-trace.trace-iterator ≡ c.in-Some.trace ∷ into_iter_items c.next.new.self = c.in-Some.ensures.steps.0 in
    record {
      whole = taken_more c.loop-trace.yielded _ _ _ _ c.loop-trace.invariant.whole steps;
      rest =
          let was = c.loop-trace.invariant.rest in
          let gone = c.in-Some.ensures.steps.1 in
          let short = ap length steps in
          omega arith;
      number = let l = length-append c.loop-trace.yielded (c.in-Some.trace ∷ []) in omega (arith, c.loop-trace.invariant.number);
      counted = rw c.in_ok-push.ensures.items (one_longer c.loop-trace.named.items _ c.loop-trace.yielded c.in-Some.trace c.loop-trace.invariant.counted);
      inputs = λ given.
          let w = ap length c.loop-trace.invariant.whole in
          let split = length-append c.loop-trace.yielded (into_iter_items c.loop-trace.trace-iterator) in
          let gone = ap length steps in
          let all = ap length c.into_iter-trace-iterator.ensures.into_iter_gives.0 in
          let below : c.loop-trace.number < length c.args.classes.now = omega (arith, c.loop-trace.invariant.number, c.requires) in
          rw c.in_ok-push.ensures.items (trace_more given _ c.loop-trace.number c.loop-trace.named.items c.loop-trace.yielded c.in-Some.trace c.args.classes.now _ c.in_ok-streams.streams c.deref.result.now
          c.deref.ensures c.loop-trace.invariant.number c.loop-trace.invariant.counted (slice_get_read c.args.classes.now _ c.loop-trace.number c.index-classes-number.result refl below c.index-classes-number.is)
          (c.loop-trace.invariant.inputs given) (c.in_ok-streams.ensures given));
    }
