use Rattle.std.proofs.Common.{◌≡◌, ◌+◌, ◌++◌, [], take, drop, sym, ap, subst, ◌∙◌, append_assoc, append-nil, arith}
use Rattle.std.proofs.Math.ListN.{drop_of_length-le}
use Rattle.std.proofs.lemmas.Option.{IfSome_then}
use Rattle.ctf_class.specs.Records.{AreRuns}
use Rattle.ctf_format.specs.Records.{PutsFields, reached}
use Rattle.ctf_format.proofs.Chains.{of_ok}
use Rattle.ctf_format.proofs.NamesLemmas.{here}
use Rattle.ctf_format.proofs.RecordsLemmas.{takes_first, fields_join}
use Rattle.ctf_format.proofs.planned_record.put_runs.Goals as goal

pub loop-run-preserved : goal.loop-run-preserved
loop-run-preserved c =
    let runs = c.args.runs.now in
    let bytes = c.args.packet.now.bytes.now in
    let content = c.args.packet.now.end in
    let before = take c.args.at c.args.buffer.now.items in
    let l = c.loop-run in
    let k = l.run-index in
    let run = c.run-item.result in
    let line = take l.text l.buffer.items in
    let text = take c.in_ok-text.text c.put_run.new.buffer.items in
    record {
      within = c.in_ok-text.ensures.within;
      few = c.in_ok-text.ensures.few;
      puts = λ slots are.
          let w = l.invariant.puts slots are in
          let first = takes_first w.1 run (drop (k + 1) runs) (subst (AreRuns w.1) (here runs k run c.loop-run-test.true c.run-item.is) w.3) in
          let more = c.in_ok-text.ensures.puts w.1 first.0 first.1 in
          (w.0 ++ more.0, first.0, w.2 ∙ ap (λ xs. w.0 ++ xs) more.1 ∙ sym (append_assoc w.0 more.0 first.0), first.2, fields_join bytes content w.0 more.0 (reached c.args.reach.now before) (reached l.so_far line) (reached c.put_run.new.reach text) w.4 more.2);
    }

pub returns-clause-puts : goal.returns-clause-puts
returns-clause-puts c = λ slots are.
    let runs = c.args.runs.now in
    let l = c.loop-run in
    let w = l.invariant.puts slots are in
    let all : drop l.run-index runs ≡ [] = drop_of_length-le runs (omega (arith, c.loop-run-test.false)) in
    let none : w.1 ≡ [] = subst (AreRuns w.1) all w.3 in
    let whole : w.0 ≡ slots = sym (w.2 ∙ ap (λ xs. w.0 ++ xs) none ∙ append-nil w.0) in
    let line = take l.text l.buffer.items in
    let puts = subst (λ ss. PutsFields ss c.args.packet.now.bytes.now c.args.packet.now.end (reached c.args.reach.now (take c.args.at c.args.buffer.now.items)) (reached l.so_far line)) whole w.4 in
    IfSome_then c.ok.result (of_ok _ _ c.ok.ensures.value c.put_end.ensures) (λ text put. (line, puts, put.text))
