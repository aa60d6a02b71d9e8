use Rattle.std.proofs.Common.{◌≡◌, ◌∷◌, [], length, refl, sym, ap, ◌∙◌, arith}
use Rattle.std.proofs.lemmas.List.{map-append, length-append}
use Rattle.std.specs.Vec.Iter.{into_iter_items}
use Rattle.ctf_session.specs.Inputs.{Given, inputs_from}
use Rattle.ctf_session.proofs.Opened.{all_taken, taken_more, inputs_at, same_trace}
use Rattle.ctf_session.proofs.opening.open_all.Goals as goal

pub loop-trace-preserved : goal.loop-trace-preserved
loop-trace-preserved g c =
    let steps : into_iter_items c.loop-trace.trace-iterator ≡ c.in-Some.trace ∷ into_iter_items c.next.new.self = c.in-Some.ensures.steps.0 in
    let given : g.row.S.Denot → Given = λ s. record { tells = g.S.Source.tells s; bytes = g.S.Source.left s; ending = g.S.Source.ending s } in
    let more = inputs_at given c.loop-trace.yielded c.in-Some.trace c.loop-trace.number c.loop-trace.invariant.number in
    record {
      whole = taken_more c.loop-trace.yielded _ _ _ _ c.loop-trace.invariant.whole steps;
      rest =
          let was = c.loop-trace.invariant.rest in
          let gone = c.in-Some.ensures.steps.1 in
          let short = ap length steps in
          omega arith;
      number = let l = length-append c.loop-trace.yielded (c.in-Some.trace ∷ []) in omega (arith, c.loop-trace.invariant.number);
      opened = rw more (c.in_ok-open_streams.ensures.opened (inputs_from given 0 c.loop-trace.yielded) c.loop-trace.invariant.opened);
      numbers = rw (c.in_ok-open_streams.ensures.numbers, c.loop-trace.invariant.numbers, more, map-append, same_trace) refl;
    }

pub returns-clause-opened : goal.returns-clause-opened
returns-clause-opened g c =
    let all : c.loop-trace.yielded ≡ c.args.traces.items = all_taken c.loop-trace.yielded _ _ c.loop-trace.invariant.whole (sym c.loop-trace.invariant.rest ∙ c.in-None.ensures.steps.0) ∙ c.into_iter-trace-iterator.ensures.into_iter_gives.0 in
    rw (← all) c.loop-trace.invariant.opened

pub returns-clause-numbers : goal.returns-clause-numbers
returns-clause-numbers g c =
    let all : c.loop-trace.yielded ≡ c.args.traces.items = all_taken c.loop-trace.yielded _ _ c.loop-trace.invariant.whole (sym c.loop-trace.invariant.rest ∙ c.in-None.ensures.steps.0) ∙ c.into_iter-trace-iterator.ensures.into_iter_gives.0 in
    rw (← all) c.loop-trace.invariant.numbers
