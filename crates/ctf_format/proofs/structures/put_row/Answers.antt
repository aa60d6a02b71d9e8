use Rattle.std.proofs.Common.{◌≡◌, take, refl, subst, arith}
use Rattle.ctf_decode.specs.Views.{form}
use Rattle.ctf_format.specs.Texts.{value_text}
use Rattle.ctf_format.proofs.ArrayLemmas.{Going, going_begins, going_on, going_ends}
use Rattle.ctf_format.proofs.StandingLemmas.{mark_next}
use Rattle.ctf_format.proofs.structures.put_row.Goals as goal

pub loop-i-init : goal.loop-i-init
loop-i-init c = record {
  within = c.requires.within;
  marked = refl;
  going = λ k is. going_begins (form k) (value_text k) c.args.are.now.count c.args.count c.args.packet.now.bytes.now c.args.packet.now.end c.args.from.place (take c.args.from.text c.args.buffer.now.items);
}

pub loop-i-preserved : goal.loop-i-preserved
loop-i-preserved c =
    let before = take c.args.from.text c.args.buffer.now.items in
    let ends = c.in_ok-at.at in
    record {
      within = c.in_ok-at.ensures.within;
      marked = mark_next 91 c.loop-i.i;
      going = λ k is. going_on (form k) (value_text k) c.args.are.now.count c.args.count c.args.packet.now.bytes.now c.args.packet.now.end c.args.from.place before c.loop-i.i c.loop-i.at.place ends.place c.loop-i.mark (take c.loop-i.at.text c.loop-i.buffer.items) (take ends.text c.put_element.new.buffer.items) c.loop-i-test.true c.loop-i.invariant.marked (c.loop-i.invariant.going k is) (c.in_ok-at.ensures.puts k is);
    }

pub returns-clause-puts : goal.returns-clause-puts
returns-clause-puts c = λ k is.
    let before = take c.args.from.text c.args.buffer.now.items in
    let after = take c.loop-i.at.text c.loop-i.buffer.items in
    let all : c.loop-i.i ≡ c.args.count = omega (arith, c.loop-i-test.false, c.loop-i.auto.i-end) in
    going_ends (form k) (value_text k) c.args.are.now.count c.args.count c.args.packet.now.bytes.now c.args.packet.now.end c.args.from.place before c.loop-i.at.place after
    (subst (λ n. Going (form k) (value_text k) c.args.are.now.count c.args.count c.args.packet.now.bytes.now c.args.packet.now.end c.args.from.place n c.loop-i.at.place before after) all (c.loop-i.invariant.going k is))
