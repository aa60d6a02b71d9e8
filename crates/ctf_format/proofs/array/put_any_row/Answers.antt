use Rattle.std.proofs.Common.{◌≡◌, ◌∷◌, take, refl, subst, arith}
use Rattle.ctf_decode.specs.Forms as forms
use Rattle.ctf_format.specs.Texts.{element_text, integer_text}
use Rattle.ctf_format.proofs.ArrayLemmas.{Going, going_begins, going_on, going_ends, puts_some}
use Rattle.ctf_format.proofs.StandingLemmas.{mark_next}
use Rattle.ctf_format.proofs.array.put_any_row.Goals as goal

pub loop-i-init : goal.loop-i-init
loop-i-init c = record {
  within = c.requires;
  marked = refl;
  going = going_begins (forms.integer c.args.class.now.align c.args.class.now.integer.now) (integer_text c.args.class.now.integer.now) 1 c.args.count c.args.packet.now.bytes.now c.args.packet.now.end c.args.from.place (take c.args.from.text c.args.buffer.now.items);
}

pub loop-i-preserved : goal.loop-i-preserved
loop-i-preserved c =
    let i = c.args.class.now.integer.now in
    let k = forms.integer c.args.class.now.align i in
    let bytes = c.args.packet.now.bytes.now in
    let content = c.args.packet.now.end in
    let before = take c.args.from.text c.args.buffer.now.items in
    let line = take c.loop-i.at.text c.loop-i.buffer.items in
    let ends = c.in_ok-at.at in
    let after = take ends.text c.put_element.new.buffer.items in
    let mark = c.loop-i.mark in
    let index = c.loop-i.i in
    record {
      within = c.in_ok-at.ensures.within;
      marked = mark_next 91 index;
      going = going_on k (integer_text i) 1 c.args.count bytes content c.args.from.place before index c.loop-i.at.place ends.place mark line after c.loop-i-test.true c.loop-i.invariant.marked c.loop-i.invariant.going (puts_some k (λ v. mark ∷ 32 ∷ element_text (integer_text i) index v) bytes content c.loop-i.at.place ends.place line after c.in_ok-at.ensures.puts);
    }

pub returns-clause-puts : goal.returns-clause-puts
returns-clause-puts c =
    let i = c.args.class.now.integer.now in
    let k = forms.integer c.args.class.now.align i in
    let before = take c.args.from.text c.args.buffer.now.items in
    let after = take c.loop-i.at.text c.loop-i.buffer.items in
    let all : c.loop-i.i ≡ c.args.count = omega (arith, c.loop-i-test.false, c.loop-i.auto.i-end) in
    going_ends k (integer_text i) 1 c.args.count c.args.packet.now.bytes.now c.args.packet.now.end c.args.from.place before c.loop-i.at.place after
    (subst (λ n. Going k (integer_text i) 1 c.args.count c.args.packet.now.bytes.now c.args.packet.now.end c.args.from.place n c.loop-i.at.place before after) all c.loop-i.invariant.going)
