use Rattle.std.proofs.Common.{rules, ◌≡◌, List, ◌∷◌, length, refl, sym, ap, ◌∙◌, subst, append_assoc, append-nil, arith}
use Rattle.std.proofs.lemmas.List.{map-append}
use Rattle.std.specs.Vec.Iter.{into_iter_items}
use Rattle.ctf_session.specs.Inputs.{Input}
use Rattle.ctf_session.specs.Opening.{EachOpens}
use Rattle.ctf_session.proofs.Opened.{opens_next, all_taken, taken_more}
use Rattle.ctf_session.proofs.opening.open_streams.Goals as goal

pub loop-name-init : goal.loop-name-init
loop-name-init g c = record {
  whole = refl;
  rest = search rules;
  opened = λ inputs each. subst (λ (xs : List Input). EachOpens c.args.options.now xs c.args.opened.now.readers.items) (sym (append-nil inputs)) each;
  numbers = sym (append-nil c.args.opened.now.numbers.items);
}

pub loop-name-preserved : goal.loop-name-preserved
loop-name-preserved g c =
    let steps : into_iter_items c.loop-name.name-iterator ≡ (c.in-Some.name, c.in-Some.source) ∷ into_iter_items c.next.new.self = c.in-Some.ensures.steps.0 in
    record {
      whole = taken_more c.loop-name.yielded _ _ _ _ c.loop-name.invariant.whole steps;
      rest =
          let was = c.loop-name.invariant.rest in
          let gone = c.in-Some.ensures.steps.1 in
          let short = ap length steps in
          omega arith;
      opened = λ inputs each. rw c.in_ok-push.ensures.items (opens_next c.args.options.now inputs _ c.loop-name.yielded (c.in-Some.name, c.in-Some.source) c.loop-name.opened.readers.items c.with_texts.result
          (c.loop-name.invariant.opened inputs each)
          (rw (c.with_texts.ensures, c.new-reader.ensures.writes) (record {
            told = c.new-reader.ensures.told;
            writes = refl;
            name = c.new-reader.ensures.name ∙ c.from_string-name.ensures;
            tells = c.new-reader.ensures.tells;
            left = c.new-reader.ensures.left;
            taken = c.new-reader.ensures.taken;
            ahead = c.new-reader.ensures.start;
            on_line = c.new-reader.ensures.on_line;
          })));
      numbers = rw (c.in_ok-push-2.ensures.items, c.loop-name.invariant.numbers, append_assoc, map-append) refl;
    }

pub returns-clause-opened : goal.returns-clause-opened
returns-clause-opened g c = λ inputs each.
    let all : c.loop-name.yielded ≡ c.args.trace.streams.items = all_taken c.loop-name.yielded _ _ c.loop-name.invariant.whole (sym c.loop-name.invariant.rest ∙ c.in-None.ensures.steps.0) ∙ c.into_iter-name-iterator.ensures.into_iter_gives.0 in
    rw (← all) (c.loop-name.invariant.opened inputs each)

pub returns-clause-numbers : goal.returns-clause-numbers
returns-clause-numbers g c =
    let all : c.loop-name.yielded ≡ c.args.trace.streams.items = all_taken c.loop-name.yielded _ _ c.loop-name.invariant.whole (sym c.loop-name.invariant.rest ∙ c.in-None.ensures.steps.0) ∙ c.into_iter-name-iterator.ensures.into_iter_gives.0 in
    rw (← all) c.loop-name.invariant.numbers
