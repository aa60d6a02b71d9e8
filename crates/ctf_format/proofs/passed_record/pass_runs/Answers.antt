use Rattle.std.proofs.Common.{◌≡◌, ◌+◌, ◌++◌, [], drop, sym, ap, subst, ◌∙◌, append-nil, arith}
use Rattle.std.proofs.Math.ListN.{drop_of_length-le}
use Rattle.ctf_class.specs.Records.{AreRuns}
use Rattle.ctf_format.specs.Records.{PutsFields, reached}
use Rattle.ctf_format.proofs.NamesLemmas.{here}
use Rattle.ctf_format.proofs.PassingLemmas.{fields_begin, fields_pass}
use Rattle.ctf_format.proofs.RecordsLemmas.{takes_first}
use Rattle.ctf_format.proofs.passed_record.pass_runs.Goals as goal

pub loop-run-init : goal.loop-run-init
loop-run-init c = record {
  within = c.requires.start;
  few = c.requires.few;
  passes = λ slots are. (slots, are, fields_begin slots c.args.packet.now c.args.from);
}

pub loop-run-preserved : goal.loop-run-preserved
loop-run-preserved c =
    let runs = c.args.runs.now in
    let l = c.loop-run in
    let k = l.run-index in
    let run = c.run-item.result in
    let to = c.in_ok-reach.reach in
    record {
      within = c.in_ok-reach.ensures.within;
      few = c.in_ok-reach.ensures.few;
      passes = λ slots are.
          let w = l.invariant.passes slots are in
          let first = takes_first w.0 run (drop (k + 1) runs) (subst (AreRuns w.0) (here runs k run c.loop-run-test.true c.run-item.is) w.1) in
          (first.0, first.2, fields_pass slots w.0 first.0 c.args.packet.now c.args.from l.reach to w.2 (c.in_ok-reach.ensures.passes w.0 first.0 first.1));
    }

pub returns-clause-passes : goal.returns-clause-passes
returns-clause-passes c = λ slots are before.
    let runs = c.args.runs.now in
    let l = c.loop-run in
    let w = l.invariant.passes slots are in
    let all : drop l.run-index runs ≡ [] = drop_of_length-le runs (omega (arith, c.loop-run-test.false)) in
    let none : w.0 ≡ [] = subst (AreRuns w.0) all w.1 in
    let p = w.2 before in
    let used = p.1.0 in
    let whole : used ≡ slots = sym (p.1.1 ∙ ap (λ xs. used ++ xs) none ∙ append-nil used) in
    (p.0, subst (λ ss. PutsFields ss c.args.packet.now.bytes.now c.args.packet.now.end (reached c.args.from before) (reached l.reach p.0)) whole p.1.2)
