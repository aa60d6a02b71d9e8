use Rattle.std.proofs.Common.{◌≡◌, ◌∙◌, refl, subst, arith}
use Rattle.ctf_format.proofs.PassingLemmas.{going, passing_begins, passing_ends, passing_on}
use Rattle.ctf_format.proofs.passed_record.end_of_row.Goals as goal

pub loop-i-init : goal.loop-i-init
loop-i-init c = record {
  within = c.requires.start;
  begun = λ none. refl;
  going = λ k is. passing_begins c.args.packet.now c.args.element.now k is c.args.count c.args.from;
}

pub loop-i-preserved : goal.loop-i-preserved
loop-i-preserved c =
    let l = c.loop-i in
    record {
      within = c.in_ok-place.ensures.within;
      begun = λ none. absurd (omega (arith, none));
      going = λ k is. passing_on c.args.packet.now c.args.element.now k is c.args.count c.args.from l.i l.place c.in_ok-place.place c.loop-i-test.true c.in_ok-place.ensures.end c.in_ok-place.ensures.within (l.invariant.going k is);
    }

pub returns-clause-passes : goal.returns-clause-passes
returns-clause-passes c = λ k is.
    let l = c.loop-i in
    let packet = c.args.packet.now in
    let e = c.args.element.now in
    let all : l.i ≡ c.args.count = omega (arith, c.loop-i-test.false, l.auto.i-end) in
    passing_ends packet e k is c.args.count c.args.from l.place (λ none. l.invariant.begun (all ∙ none)) (subst (λ n. going packet e k is c.args.count c.args.from n l.place) all (l.invariant.going k is))
