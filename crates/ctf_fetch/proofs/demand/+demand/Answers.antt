use Rattle.std.proofs.Common.{rules, ◌≡◌, ◌-◌, ◌*◌, ◌<◌, ◌≤◌, ◌++◌, ◌∷◌, length, map, IfErr, IfOk, Err, Ok, subst, sym, arith, length-append}
use Rattle.std.specs.Prelude.{min}
use Rattle.std.specs.Int.{next_multiple_of}
use Rattle.ctf_decode.specs.Views.{form, val, env}
use Rattle.ctf_decode.specs.Walk.{walk}
use Rattle.ctf_decode.specs.declared.scopes.TheConstants.{MOST_VALUES}
use Rattle.ctf_decode.proofs.Views.{env-Within}
use Rattle.ctf_packet.specs.Scopes.{longest}
use Rattle.ctf_fetch.specs.Demand.{input_at, found_at, members_at, elements_at, options_at, IsFound, Failed, FailsToOpen, IsOpened}
use Rattle.ctf_fetch.specs.Fetching.{OrNoMemory}
use Rattle.ctf_fetch.proofs.Keeping.{keeps_on}
use Rattle.ctf_fetch.proofs.Composites.{members_step, members_done, elements_step, elements_short, elements_done, option_none, option_short, option_found, structure_fails, structure_found, array_fails, array_found}
use Rattle.ctf_fetch.proofs.demand.+demand.Goals as goal

pub members_on_demand-loop-member-preserved : goal.members_on_demand-loop-member-preserved
members_on_demand-loop-member-preserved g t c =
    let before = c.loop-member.invariant in
    let place = c.args.place.now in
    let old = c.loop-member.intake.buffer.now in
    let new = c.value_on_demand.new.intake.buffer.now in
    let next = c.in_ok-next.next in
    let found : walk (form c.member-item.result.class) (input_at place new) (map val c.loop-member.values ∷ env place.frame.now) c.loop-member.end c.loop-member.spent ≡ Ok (val next.value, next.end, next.spent) =
    rw (env-Within, c.as_slice.ensures) at c.in_ok-next.ensures.value in
    record {
      keeps = keeps_on before.keeps c.value_on_demand.ensures.keeps;
      few = c.value_on_demand.ensures.few;
      within = c.in_ok-next.ensures.within;
      forward = (let one = before.forward in let two = c.in_ok-next.ensures.forward in omega (arith, one, two));
      near = (let one = before.near in let two = c.in_ok-next.ensures.near in let on = c.in_ok-next.ensures.forward in omega (arith, one, two, on));
      walked = rw c.in-Ok.ensures.ok (members_step place c.args.members.now c.loop-member.member-index c.member-item.result c.loop-member-test.true c.member-item.is old new c.value_on_demand.ensures.keeps.bytes.first c.loop-member.values next.value c.loop-member.end c.loop-member.spent next.end next.spent found before.walked);
    }

pub members_on_demand-returns-clause-value : goal.members_on_demand-returns-clause-value
members_on_demand-returns-clause-value g t c =
    members_done c.args.place.now c.args.members.now c.loop-member.member-index c.loop-member-test.false c.loop-member.intake.buffer.now c.loop-member.values c.loop-member.end c.loop-member.spent c.loop-member.invariant.walked

pub elements_on_demand-loop-more-preserved : goal.elements_on_demand-loop-more-preserved
elements_on_demand-loop-more-preserved g t c =
    let before = c.loop-more.invariant in
    let place = c.args.place.now in
    let old = c.loop-more.intake.buffer.now in
    let new = c.value_on_demand.new.intake.buffer.now in
    let next = c.in_ok-next.next in
    record {
      keeps = keeps_on before.keeps c.value_on_demand.ensures.keeps;
      few = c.value_on_demand.ensures.few;
      within = c.in_ok-next.ensures.within;
      forward = (let one = before.forward in let two = c.in_ok-next.ensures.forward in omega (arith, one, two));
      near = (let one = before.near in let two = c.in_ok-next.ensures.near in let on = c.in_ok-next.ensures.forward in omega (arith, one, two, on));
      walked = rw c.in-Ok.ensures.ok (elements_step place c.args.element.now c.args.count c.loop-more._more c.loop-more-test.true old new c.value_on_demand.ensures.keeps.bytes.first c.loop-more.values next.value c.loop-more.end c.loop-more.spent next.end next.spent c.in_ok-next.ensures.value before.walked);
    }

pub elements_on_demand-returns-in_err-next-clause-faulty : goal.elements_on_demand-returns-in_err-next-clause-faulty
elements_on_demand-returns-in_err-next-clause-faulty g t c = λ tells.
    let before = c.loop-more.invariant in
    let fault = c.in_err-next.field-0.0 in
    let new = c.value_on_demand.new.intake.buffer.now in
    let left = g.S.Source.left c.value_on_demand.new.intake.source.now in
    let ending = g.S.Source.ending c.args.intake.now.source.now in
    let told = subst (λ e. OrNoMemory (Failed e (walk (form c.args.element.now) (input_at c.args.place.now (new ++ left)) (env c.args.place.now.frame.now) c.loop-more.end c.loop-more.spent)) fault) (before.keeps.bytes.same_end tells) (c.in_err-next.ensures.faulty (before.keeps.bytes.tells tells)) in
    let short = elements_short c.args.place.now c.args.element.now c.args.count ending fault c.loop-more._more c.loop-more-test.true c.loop-more.intake.buffer.now new left c.value_on_demand.ensures.keeps.bytes.first c.loop-more.values c.loop-more.end c.loop-more.spent before.walked told in
    let e : c.from_residual.result ≡ Err fault = search rules in
    subst (λ r. IfErr r (OrNoMemory (Failed ending (elements_at c.args.element.now c.args.count c.args.place.now (new ++ left))))) (sym e) short

pub elements_on_demand-returns-clause-value : goal.elements_on_demand-returns-clause-value
elements_on_demand-returns-clause-value g t c =
    let none : c.args.count - c.loop-more._more ≡ 0 = (let past = c.loop-more-test.false in omega (arith, past)) in
    elements_done c.args.place.now c.args.element.now c.args.count (c.args.count - c.loop-more._more) none c.loop-more.intake.buffer.now c.loop-more.values c.loop-more.end c.loop-more.spent c.loop-more.invariant.walked

pub option_on_demand-returns-then-i-options-clause-faulty : goal.option_on_demand-returns-then-i-options-clause-faulty
option_on_demand-returns-then-i-options-clause-faulty g t c = λ tells.
    let few : c.args.place.now.spent < MOST_VALUES = search rules in
    option_none c.args.place.now c.args.options.now c.args.chosen c.in-Some.i c.in-Some.is few (g.S.Source.ending c.args.intake.now.source.now) (c.args.intake.now.buffer.now ++ g.S.Source.left c.args.intake.now.source.now) c.if-i-options.true

pub option_on_demand-returns-in_err-next-clause-faulty : goal.option_on_demand-returns-in_err-next-clause-faulty
option_on_demand-returns-in_err-next-clause-faulty g t c = λ tells.
    let few : c.args.place.now.spent < MOST_VALUES = search rules in
    let fault = c.in_err-next.field-0.0 in
    let all = c.value_on_demand.new.intake.buffer.now ++ g.S.Source.left c.value_on_demand.new.intake.source.now in
    let ending = g.S.Source.ending c.args.intake.now.source.now in
    let short = option_short c.args.place.now c.args.options.now c.args.chosen c.in-Some.i c.in-Some.is few c.index-options-i.result c.if-i-options.false c.index-options-i.is ending all fault (rw (← c.index-options-i.is) at (c.in_err-next.ensures.faulty tells)) in
    let e : c.from_residual.result ≡ Err fault = search rules in
    subst (λ r. IfErr r (OrNoMemory (Failed ending (options_at c.args.options.now c.args.chosen c.args.place.now all)))) (sym e) short

pub option_on_demand-returns-clause-value : goal.option_on_demand-returns-clause-value
option_on_demand-returns-clause-value g t c =
    let few : c.args.place.now.spent < MOST_VALUES = search rules in
    let next = c.in_ok-next.next in
    option_found c.args.place.now c.args.options.now c.args.chosen c.in-Some.i c.in-Some.is few c.index-options-i.result c.if-i-options.false c.index-options-i.is c.value_on_demand.new.intake.buffer.now next.value c.in-Ok.value next.end next.spent (rw (← c.index-options-i.is) at c.in_ok-next.ensures.value) c.in-Ok.ensures

pub value_on_demand-returns-in_err-inner-in-Structure-clause-faulty : goal.value_on_demand-returns-in_err-inner-in-Structure-clause-faulty
value_on_demand-returns-in_err-inner-in-Structure-clause-faulty g t c = λ tells.
    let fault = c.in_err-inner-in-Structure.field-0.0 in
    let all = c.opening_end.new.intake.buffer.now ++ g.S.Source.left c.opening_end.new.intake.source.now in
    let ending = g.S.Source.ending c.args.intake.now.source.now in
    let fails = structure_fails c.args.class.now c.args.place.now c.in-Structure.members ending all fault c.in-Structure.is (c.in_err-inner-in-Structure.ensures.faulty tells) in
    let e : c.from_residual.result ≡ Err fault = search rules in
    subst (λ r. IfErr r (OrNoMemory (Failed ending (found_at c.args.class.now c.args.place.now all)))) (sym e) fails

pub value_on_demand-returns-in_ok-inner-in-Structure-clause-faulty : goal.value_on_demand-returns-in_ok-inner-in-Structure-clause-faulty
value_on_demand-returns-in_ok-inner-in-Structure-clause-faulty g t c = λ tells.
    let inner = c.in_ok-inner-in-Structure.inner in
    let new = c.members_on_demand.new.intake.buffer.now in
    let left = g.S.Source.left c.members_on_demand.new.intake.source.now in
    let result = c.members_on_demand.result in
    let reached = c.in_ok-inner-in-Structure.ensures.within in
    let grown = c.members_on_demand.ensures.keeps.bytes.grown in
    let longer = length-append new left in
    let within : inner.end ≤ min (8 * length (new ++ left)) longest = omega (arith, reached, grown, longer) in
    let same = structure_found c.args.class.now c.args.place.now c.in-Structure.members inner (new ++ left) c.in-Structure.is c.in_ok-inner-in-Structure.ensures.opens within in
    let told : IfErr result (OrNoMemory (Failed (g.S.Source.ending c.opening_end.new.intake.source.now) (members_at c.in-Structure.members inner (new ++ left)))) =
    rw c.as_slice.ensures at (c.members_on_demand.ensures.faulty (c.opening_end.ensures.keeps.bytes.tells tells)) in
    let there_is = subst (λ e. IfErr result (OrNoMemory (Failed e (members_at c.in-Structure.members inner (new ++ left))))) (c.opening_end.ensures.keeps.bytes.same_end tells) told in
    subst (λ r. IfErr result (OrNoMemory (Failed (g.S.Source.ending c.args.intake.now.source.now) r))) (sym same) there_is

pub value_on_demand-returns-in_err-inner-in-Array-clause-faulty : goal.value_on_demand-returns-in_err-inner-in-Array-clause-faulty
value_on_demand-returns-in_err-inner-in-Array-clause-faulty g t c = λ tells.
    let place = c.args.place.now in
    let fault = c.in_err-inner-in-Array.field-0.0 in
    let all = c.opening_end-in-Array.new.intake.buffer.now ++ g.S.Source.left c.opening_end-in-Array.new.intake.source.now in
    let ending = g.S.Source.ending c.args.intake.now.source.now in
    let told : OrNoMemory (FailsToOpen ending place (next_multiple_of place.end c.in-Array.element.align) all) fault = rw c.get-element.ensures at (c.in_err-inner-in-Array.ensures.faulty tells) in
    let fails = array_fails c.args.class.now place c.in-Array.length c.in-Array.element c.length_at-count.result ending all fault c.in-Array.is c.length_at-count.ensures told in
    let e : c.from_residual-in_err-inner-in-Array.result ≡ Err fault = search rules in
    subst (λ r. IfErr r (OrNoMemory (Failed ending (found_at c.args.class.now place all)))) (sym e) fails

pub value_on_demand-returns-in_ok-inner-in-Array-clause-value : goal.value_on_demand-returns-in_ok-inner-in-Array-clause-value
value_on_demand-returns-in_ok-inner-in-Array-clause-value g t c =
    let inner = c.in_ok-inner-in-Array.inner in
    let new = c.elements_on_demand.new.intake.buffer.now in
    let result = c.elements_on_demand.result in
    let reached = c.in_ok-inner-in-Array.ensures.within in
    let grown = c.elements_on_demand.ensures.keeps.bytes.grown in
    let within : inner.end ≤ min (8 * length new) longest = omega (arith, reached, grown) in
    let opens : IsOpened c.args.place.now (next_multiple_of c.args.place.now.end c.in-Array.element.align) inner = rw c.get-element.ensures at c.in_ok-inner-in-Array.ensures.opens in
    let same = array_found c.args.class.now c.args.place.now c.in-Array.length c.in-Array.element c.length_at-count.result inner new c.in-Array.is c.length_at-count.ensures opens within in
    let told : IfOk result (IsFound (elements_at c.in-Array.element c.length_at-count.result inner new)) = rw c.get-element.ensures at c.elements_on_demand.ensures.value in
    subst (λ r. IfOk result (IsFound r)) (sym same) told

pub value_on_demand-returns-in_ok-inner-in-Array-clause-faulty : goal.value_on_demand-returns-in_ok-inner-in-Array-clause-faulty
value_on_demand-returns-in_ok-inner-in-Array-clause-faulty g t c = λ tells.
    let inner = c.in_ok-inner-in-Array.inner in
    let new = c.elements_on_demand.new.intake.buffer.now in
    let left = g.S.Source.left c.elements_on_demand.new.intake.source.now in
    let result = c.elements_on_demand.result in
    let reached = c.in_ok-inner-in-Array.ensures.within in
    let grown = c.elements_on_demand.ensures.keeps.bytes.grown in
    let longer = length-append new left in
    let within : inner.end ≤ min (8 * length (new ++ left)) longest = omega (arith, reached, grown, longer) in
    let opens : IsOpened c.args.place.now (next_multiple_of c.args.place.now.end c.in-Array.element.align) inner = rw c.get-element.ensures at c.in_ok-inner-in-Array.ensures.opens in
    let same = array_found c.args.class.now c.args.place.now c.in-Array.length c.in-Array.element c.length_at-count.result inner (new ++ left) c.in-Array.is c.length_at-count.ensures opens within in
    let told : IfErr result (OrNoMemory (Failed (g.S.Source.ending c.opening_end-in-Array.new.intake.source.now) (elements_at c.in-Array.element c.length_at-count.result inner (new ++ left)))) =
    rw c.get-element.ensures at (c.elements_on_demand.ensures.faulty (c.opening_end-in-Array.ensures.keeps.bytes.tells tells)) in
    let there_is = subst (λ e. IfErr result (OrNoMemory (Failed e (elements_at c.in-Array.element c.length_at-count.result inner (new ++ left))))) (c.opening_end-in-Array.ensures.keeps.bytes.same_end tells) told in
    subst (λ r. IfErr result (OrNoMemory (Failed (g.S.Source.ending c.args.intake.now.source.now) r))) (sym same) there_is
