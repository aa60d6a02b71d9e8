use Rattle.std.proofs.Common.{◌<◌, ◌≤◌, take, length, arith}
use Rattle.std.proofs.lemmas.Bool.Decides.{nat_tests}
use Rattle.ctf_decode.specs.Views.{val}
use Rattle.ctf_format.specs.Texts.{value_text}
use Rattle.ctf_format.proofs.Chains.{put_after}
use Rattle.ctf_format.proofs.PartsLemmas.{closed_members, closed_elements, closed_option, no_value}
use Rattle.ctf_format.proofs.value.+texts.Goals as goal

pub put_array-returns : goal.put_array-returns
put_array-returns t c =
    let some : 0 < length c.args.values.now = grind (arith, nat_tests) in
    put_after c.args.buffer.now c.put_elements.new.buffer c.put_end.new.buffer c.args.at c.in_ok-end.end _ _ c.put_end.result (closed_elements (value_text c.args.element.now) c.args.values.now _ (take c.args.at c.args.buffer.now.items) some c.in_ok-end.ensures.text) c.put_end.ensures

pub put_option-returns : goal.put_option-returns
put_option-returns t c =
    put_after c.args.buffer.now c.put_member.new.buffer c.put_end.new.buffer c.args.at c.in_ok-end.end _ _ c.put_end.result (closed_option c.args.options.now c.args.i c.index-options-i.result (val c.args.value.now) _ (take c.args.at c.args.buffer.now.items) c.if-i-options.false c.index-options-i.is c.in_ok-end.ensures.text) c.put_end.ensures

pub put_structure-returns-then-is_empty-2 : goal.put_structure-returns-then-is_empty-2
put_structure-returns-then-is_empty-2 t c =
    let none : length c.args.values.now ≤ 0 = grind (arith, nat_tests) in
    rw (no_value c.args.members.now c.args.values.now none) c.put_nothing-then-is_empty-2.ensures

pub put_structure-returns : goal.put_structure-returns
put_structure-returns t c =
    let some_members : 0 < length c.args.members.now = grind (arith, nat_tests) in
    let some_values : 0 < length c.args.values.now = grind (arith, nat_tests) in
    put_after c.args.buffer.now c.put_members.new.buffer c.put_end.new.buffer c.args.at c.in_ok-end.end _ _ c.put_end.result (closed_members c.args.members.now c.args.values.now _ (take c.args.at c.args.buffer.now.items) some_members some_values c.in_ok-end.ensures.text) c.put_end.ensures
