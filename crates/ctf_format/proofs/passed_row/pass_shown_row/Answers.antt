use Rattle.std.proofs.Common.{◌≡◌, ◌∙◌, refl, subst, rules, arith}
use Rattle.ctf_decode.specs.Views.{form}
use Rattle.ctf_format.specs.Branches.{Anywhere}
use Rattle.ctf_format.specs.Passing.{next_at}
use Rattle.ctf_format.specs.Records.{after_last}
use Rattle.ctf_format.specs.Texts.{value_text}
use Rattle.ctf_format.specs.declared.standing.Last.TheVariants as lasts
use Rattle.ctf_format.proofs.BranchesLemmas.{PassesGoing, next_anywhere, passing_begins, passing_ends, passing_on}
use Rattle.ctf_format.proofs.passed_row.pass_shown_row.Goals as goal

pub loop-i-init : goal.loop-i-init
loop-i-init c = record {
  within = c.requires.start;
  few = search (rules, arith);
  begun = λ none. refl;
  none = λ none. refl;
  going = λ k is. passing_begins Anywhere k c.args.count c.args.packet.now c.args.place;
}

pub loop-i-preserved : goal.loop-i-preserved
loop-i-preserved c =
    let l = c.loop-i in
    let next = c.in_ok-next.next in
    record {
      within = c.in_ok-next.ensures.within;
      few = search (rules, arith);
      begun = λ none. absurd (omega (arith, none));
      none = λ none. absurd (omega (arith, none));
      going = λ k is. passing_on Anywhere k c.args.count c.args.packet.now c.args.place l.i l.at l.more next c.loop-i-test.true (l.invariant.going k is) (λ before. (let p = c.in_ok-next.ensures.passes k is (after_last 0 lasts.Unknown) before in (p.0, next_anywhere (form k) (value_text k) c.args.packet.now.bytes.now c.args.packet.now.end l.at before (next_at next) p.0 p.1)));
    }

pub returns-clause-passes : goal.returns-clause-passes
returns-clause-passes c = λ k is.
    let l = c.loop-i in
    let packet = c.args.packet.now in
    let all : l.i ≡ c.args.count = omega (arith, c.loop-i-test.false, l.auto.i-end) in
    passing_ends Anywhere k c.args.count packet c.args.place l.at l.more (λ none. l.invariant.begun (all ∙ none)) (λ none. l.invariant.none (all ∙ none)) (subst (λ i. PassesGoing Anywhere k c.args.count packet c.args.place i l.at l.more) all (l.invariant.going k is))
