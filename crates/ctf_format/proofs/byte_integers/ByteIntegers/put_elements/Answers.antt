use Rattle.std.proofs.Common.{◌≡◌, ◌+◌, ◌*◌, ◌%◌, ◌∷◌, take, subst, ◌∙◌, arith}
use Rattle.std.proofs.Math.Nat.{mul-add}
use Rattle.ctf_decode.specs.Forms as forms
use Rattle.ctf_format.specs.Rows.{row}
use Rattle.ctf_format.specs.Standing.{PutsElements}
use Rattle.ctf_format.specs.Texts.{element_text, integer_text}
use Rattle.ctf_format.proofs.ArrayLemmas.{Going, going_on, going_ends, puts_some}
use Rattle.ctf_class.proofs.AlignmentLemmas.{mod-after}
use Rattle.ctf_format.proofs.StandingLemmas.{mark_next}
use Rattle.ctf_format.proofs.byte_integers.ByteIntegers.put_elements.Goals as goal

pub loop-i-preserved : goal.loop-i-preserved
loop-i-preserved c =
    let are = c.args.self.now in
    let i = are.integer.now in
    let k = forms.integer are.align i in
    let bytes = are.packet.now.bytes.now in
    let content = are.packet.now.end in
    let before = take c.args.at c.args.buffer.now.items in
    let line = take c.loop-i.text c.loop-i.buffer.items in
    let after = take c.in_ok-text.text c.put_element.new.buffer.items in
    let mark = c.loop-i.mark in
    let index = c.loop-i.i in
    let begin = 8 * c.loop-i.first in
    let end = 8 * (c.loop-i.first + are.step) in
    let more : are.step * (index + 1) ≡ are.step * index + are.step * 1 = mul-add are.step index 1 in
    let apart : 8 * c.loop-i.first + 8 * are.step ≡ end = omega arith in
    record {
      held = c.in_ok-text.ensures.held;
      there = omega (arith, c.loop-i.invariant.there, more);
      begins = subst (λ place. place % are.align ≡ 0) apart (mod-after begin (8 * are.step) are.align c.loop-i.invariant.begins ∙ are.apart);
      marked = mark_next 91 index;
      going = going_on k (integer_text i) 1 are.count bytes content (8 * are.first) before index begin end mark line after c.loop-i-test.true c.loop-i.invariant.marked c.loop-i.invariant.going (puts_some k (λ v. mark ∷ 32 ∷ element_text (integer_text i) index v) bytes content begin end line after c.in_ok-text.ensures.puts);
    }

pub returns-clause-puts : goal.returns-clause-puts
returns-clause-puts c =
    let are = c.args.self.now in
    let i = are.integer.now in
    let k = forms.integer are.align i in
    let bytes = are.packet.now.bytes.now in
    let content = are.packet.now.end in
    let begin = 8 * are.first in
    let before = take c.args.at c.args.buffer.now.items in
    let after = take c.loop-i.text c.loop-i.buffer.items in
    let all : c.loop-i.i ≡ are.count = omega (arith, c.loop-i-test.false, c.loop-i.auto.i-end) in
    let there = subst (λ n. c.loop-i.first ≡ are.first + are.step * n) all c.loop-i.invariant.there in
    let ends : 8 * c.loop-i.first ≡ 8 * (are.first + are.step * are.count) = omega (arith, there) in
    let going = subst (λ n. Going k (integer_text i) 1 are.count bytes content begin n (8 * c.loop-i.first) before after) all c.loop-i.invariant.going in
    subst (λ end. PutsElements (row 91) k (integer_text i) 1 are.count bytes content begin end before after) ends (going_ends k (integer_text i) 1 are.count bytes content begin before (8 * c.loop-i.first) after going)
