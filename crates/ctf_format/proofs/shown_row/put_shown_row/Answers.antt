use Rattle.std.proofs.Common.{◌≡◌, take, subst, rules, arith}
use Rattle.ctf_decode.specs.Views.{form}
use Rattle.ctf_format.specs.Branches.{Anywhere, ends_at}
use Rattle.ctf_format.specs.Passing.{next_at}
use Rattle.ctf_format.specs.Texts.{value_text}
use Rattle.ctf_format.proofs.ElementsLemmas.{Going, going_ends, going_on}
use Rattle.ctf_format.proofs.StandingLemmas.{mark_next}
use Rattle.ctf_format.proofs.shown_row.put_shown_row.Goals as goal

pub loop-i-preserved : goal.loop-i-preserved
loop-i-preserved c =
    let l = c.loop-i in
    let packet = c.args.packet.now in
    let next = c.in_ok-next.next in
    record {
      within = c.in_ok-next.ensures.within;
      few = search (rules, arith);
      marked = mark_next 91 l.i;
      going = λ k is. going_on Anywhere packet.bytes.now packet.end (form k) (value_text k) c.args.count c.args.from.place (take c.args.from.text c.args.buffer.now.items) l.i l.at.place l.more l.mark (take l.at.text l.buffer.items) (next_at (ends_at next)) (take next.text c.put_shown_element.new.buffer.items) c.loop-i-test.true l.invariant.marked (l.invariant.going k is) (c.in_ok-next.ensures.puts k is);
    }

pub returns-clause-puts : goal.returns-clause-puts
returns-clause-puts c = λ k is.
    let l = c.loop-i in
    let packet = c.args.packet.now in
    let before = take c.args.from.text c.args.buffer.now.items in
    let after = take l.at.text l.buffer.items in
    let all : l.i ≡ c.args.count = omega (arith, c.loop-i-test.false, l.auto.i-end) in
    going_ends Anywhere packet.bytes.now packet.end (form k) (value_text k) c.args.count c.args.from.place before l.at.place l.more l.at.text after (subst (λ i. Going Anywhere packet.bytes.now packet.end (form k) (value_text k) c.args.count c.args.from.place i l.at.place l.more before after) all (l.invariant.going k is))
