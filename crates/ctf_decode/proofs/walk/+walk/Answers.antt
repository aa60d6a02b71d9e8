use Rattle.std.proofs.Common.{◌+◌, [], ◌∷◌, map, take, arith, refl, ap, subst, ◌∙◌}
use Rattle.std.proofs.lemmas.List.{take_more_set, map-append}
use Rattle.std.proofs.lemmas.Result.{err_from_is_err_and}
use Rattle.ctf_decode.specs.Views.{form, val, env, earlier, input}
use Rattle.ctf_decode.specs.Walk.{walk, and_then, as_choice}
use Rattle.ctf_decode.specs.Routes.{length_of}
use Rattle.ctf_decode.specs.Octets.{IsOctet}
use Rattle.ctf_decode.specs.Gives.{Gives, Fails}
use Rattle.ctf_decode.proofs.Views.{val-Choice, env-Within}
use Rattle.ctf_decode.proofs.Steps.{row_fail, row_ok, option_past, choice_gives, choice_as, gives_next}
use Rattle.ctf_decode.proofs.Arrays.{walk-array}
use Rattle.ctf_decode.proofs.ByteRows.{array_opened, walk-octets}
use Rattle.ctf_decode.proofs.walk.+walk.Goals as goal

pub elements_into-returns-in_err-element_into-clause-gives : goal.elements_into-returns-in_err-element_into-clause-gives
elements_into-returns-in_err-element_into-clause-gives t c =
    let r = err_from_is_err_and c.from_residual.result c.from_residual.ensures.1 in
    let d = c.element_into.new.at.fault in
    let f = row_fail (walk (form c.args.element.now) (input c.args.around.now.packet) (env c.args.around.now.frame.now)) c.args.count c.loop-i.i c.loop-i-test.true (map val (take c.loop-i.i c.loop-i.values.items)) c.loop-i.at.end c.loop-i.at.spent d c.in_err-element_into.ensures.gives in
    rw (r.1) (subst (Fails d) c.loop-i.invariant.walked f)

pub elements_into-loop-i-preserved : goal.elements_into-loop-i-preserved
elements_into-loop-i-preserved t c = record {
  room = omega (arith, c.in_ok-element_into.ensures.within.2);
  walked =
      let g = c.in_ok-element_into.ensures.gives in
      row_ok (walk (form c.args.element.now) (input c.args.around.now.packet) (env c.args.around.now.frame.now)) c.args.count c.loop-i.i c.loop-i-test.true (map val (take c.loop-i.i c.loop-i.values.items)) c.loop-i.at.end c.loop-i.at.spent g.0 c.element_into.new.at.end c.element_into.new.at.spent (map val (take (c.loop-i.i + 1) c.element_into.new.values.items)) g.1 g.2 ∙ c.loop-i.invariant.walked;
  within = c.in_ok-element_into.ensures.within.0;
  few = c.in_ok-element_into.ensures.within.1;
}

pub option_into-returns-then-i-options-clause-gives : goal.option_into-returns-then-i-options-clause-gives
option_into-returns-then-i-options-clause-gives t c =
    rw (c.stop_unchosen.ensures) (ap (λ r. and_then r (as_choice c.args.i)) (option_past (input c.args.around.now.packet) (env c.args.around.now.frame.now) c.args.options.now c.args.i c.args.at.now.end c.args.at.now.spent c.if-i-options.true))

pub option_into-returns-in-Choice-clause-gives : goal.option_into-returns-in-Choice-clause-gives
option_into-returns-in-Choice-clause-gives t c =
    let m = rw (← c.index-options-i.is) at c.value_into.ensures.gives in
    let g = choice_gives (input c.args.around.now.packet) (env c.args.around.now.frame.now) c.args.options.now c.args.i c.index-options-i.result c.if-i-options.false c.index-options-i.is c.args.at.now.end c.args.at.now.spent c.value_into.result c.value_into.new.at (val c.value_into.new.value) m in
    rw (val-Choice c.args.i c.value_into.new.value) g

pub option_into-returns-clause-gives : goal.option_into-returns-clause-gives
option_into-returns-clause-gives t c =
    let m = rw (← c.index-options-i.is) at c.new_choice_into.ensures.gives in
    subst (Gives c.new_choice_into.result c.new_choice_into.new.at (val c.new_choice_into.new.value)) (choice_as (input c.args.around.now.packet) (env c.args.around.now.frame.now) c.args.options.now c.args.i c.index-options-i.result c.if-i-options.false c.index-options-i.is c.args.at.now.end c.args.at.now.spent) m

pub value_into-returns-in-Array-clause-gives : goal.value_into-returns-in-Array-clause-gives
value_into-returns-in-Array-clause-gives t c =
    let g = rw (c.get.ensures, c.length_at-count.ensures) at c.array_into.ensures.gives in
    subst (Gives c.array_into.result c.array_into.new.at (val c.array_into.new.value)) (walk-array (input c.args.around.now.packet) (env c.args.around.now.frame.now) c.args.at.now.end c.args.at.now.spent c.args.class.now c.in-Array.element c.in-Array.length c.in-Array.is) g

pub array_into-returns-then-are_octets-clause-gives : goal.array_into-returns-then-are_octets-clause-gives
array_into-returns-then-are_octets-clause-gives t c =
    let k = form c.args.element.now in
    let e = env c.args.around.now.frame.now in
    let opened = array_opened (input c.args.around.now.packet) k e c.args.count _ c.begin_at-begin.result c.args.at.now.spent c.begin_at-begin.ensures.value (omega (arith, c.if-at-ge-MOST_VALUES.false)) (omega (arith, c.if-begin-around.false)) in
    subst (Gives c.octets_into.result c.octets_into.new.at (val c.octets_into.new.value)) opened (c.octets_into.ensures.gives k e (c.if-are_octets.ensures refl))

pub other_member_into-returns-then-is_octet : goal.other_member_into-returns-then-is_octet
other_member_into-returns-then-is_octet t c =
    let values = c.args.values.now in
    let before = map val (take c.args.i values) in
    let around = before ∷ env c.args.around.now.frame.now in
    let element = c.get-then-is_octet.ensures in
    let octet = subst (λ e. IsOctet (form e)) c.get.ensures (c.if-is_octet.ensures.0 refl) in
    let count = c.length_at-count-then-is_octet.ensures ∙ ap (length_of c.in-Array.length (earlier c.args.around.now.packet.scopes.now)) (env-Within _ _) in
    let g = rw (element) at c.array_into.ensures.gives in
    let whole = walk-octets (input c.args.around.now.packet) around (env c.args.around.now.frame.now) _ c.args.at.now.end c.args.at.now.spent c.args.class.now c.in-Array.element c.in-Array.length c.in-Array.is count octet in
    let v = c.array_into.new.value in
    let here = ap (map val) (take_more_set values c.args.i v c.requires.room) ∙ map-append val (take c.args.i values) (v ∷ []) in
    record {
      gives = gives_next c.array_into.result c.array_into.new.at before _ (val v) _ here (subst (Gives c.array_into.result c.array_into.new.at (val v)) whole g);
      within = c.array_into.ensures.within;
    }
