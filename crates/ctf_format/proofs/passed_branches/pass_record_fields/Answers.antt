use Rattle.std.proofs.Common.{rules, ◌≡◌, [], length, take, subst, sym}
use Rattle.std.specs.List.{All}
use Rattle.std.proofs.lemmas.Option.{IfSome_then}
use Rattle.ctf_class.specs.Records.{AreRuns}
use Rattle.ctf_format.specs.Branches.{PassesSlots}
use Rattle.ctf_format.specs.Records.{IsNear}
use Rattle.ctf_format.proofs.BranchesLemmas.{listed_in, planned_runs, runs_pass}
use Rattle.ctf_format.proofs.RecordsLemmas.{runs_near}
use Rattle.ctf_format.proofs.passed_branches.pass_record_fields.Goals as goal

pub pass_runs-requires-clause-near : goal.pass_runs-requires-clause-near
pass_runs-requires-clause-near c =
    let p = c.args.plan.now in
    let none : listed_in p.branches ≡ [] = search rules in
    let is = c.requires.is in
    subst (All IsNear) (sym c.as_slice.ensures) (runs_near is.slots p.runs (planned_runs is.depth is.slots p none is.are))

pub returns-then-is_empty-clause-passes : goal.returns-then-is_empty-clause-passes
returns-then-is_empty-clause-passes c = λ depth slots planned.
    let p = c.args.plan.now in
    let none : listed_in p.branches ≡ [] = search rules in
    let are = planned_runs depth slots p none planned in
    let given = take (length p.given) c.args.kept.now.numbers in
    IfSome_then c.pass_runs.result (c.pass_runs.ensures.passes slots (subst (AreRuns slots) (sym c.as_slice.ensures) are)) (λ to passes. (given, runs_pass slots p.runs c.args.packet.now c.args.from to given are passes))

pub returns-clause-passes : goal.returns-clause-passes
returns-clause-passes c = λ depth slots planned.
    let none : c.forget.new.self.numbers ≡ take (length c.args.plan.now.given) c.args.kept.now.numbers = search rules in
    IfSome_then c.pass_branched.result (c.pass_branched.ensures.passes depth slots planned) (λ to passes. (c.pass_branched.new.kept.numbers, subst (λ ns. PassesSlots slots c.args.packet.now c.args.from ns to c.pass_branched.new.kept.numbers) none passes))
