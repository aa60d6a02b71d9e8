use Rattle.std.proofs.Common.{rules, ◌≡◌, [], length, take, subst, sym}
use Rattle.std.specs.List.{All}
use Rattle.std.proofs.lemmas.Option.{IfSome_then}
use Rattle.ctf_class.specs.Records.{AreRuns}
use Rattle.ctf_format.specs.Branches.{come}
use Rattle.ctf_format.specs.Kept.{PutsSlots}
use Rattle.ctf_format.specs.Records.{IsNear}
use Rattle.ctf_format.proofs.BranchesLemmas.{listed_in, planned_runs}
use Rattle.ctf_format.proofs.RecordsLemmas.{fields_slots, runs_near, runs_plain}
use Rattle.ctf_format.proofs.branches.put_record_fields.Goals as goal

pub put_last_runs-requires-clause-near : goal.put_last_runs-requires-clause-near
put_last_runs-requires-clause-near c =
    let p = c.args.plan.now in
    let none : listed_in p.branches ≡ [] = search rules in
    let is = c.requires.is in
    subst (All IsNear) (sym c.as_slice.ensures) (runs_near is.slots p.runs (planned_runs is.depth is.slots p none is.are))

pub returns-then-is_empty-clause-puts : goal.returns-then-is_empty-clause-puts
returns-then-is_empty-clause-puts c = λ depth slots planned.
    let p = c.args.plan.now in
    let packet = c.args.packet.now in
    let none : listed_in p.branches ≡ [] = search rules in
    let are = planned_runs depth slots p none planned in
    let given = take (length p.given) c.args.kept.now.numbers in
    let from = come c.args.from (take c.args.from.text c.args.buffer.now.items) in
    IfSome_then c.put_last_runs.result (c.put_last_runs.ensures.puts slots (subst (AreRuns slots) (sym c.as_slice.ensures) are)) (λ end puts. (given, puts.0, fields_slots packet.bytes.now packet.end slots from (come end puts.0) given (runs_plain slots p.runs are) puts.1, puts.2))

pub returns-clause-puts : goal.returns-clause-puts
returns-clause-puts c = λ depth slots planned.
    let packet = c.args.packet.now in
    let from = come c.args.from (take c.args.from.text c.args.buffer.now.items) in
    let ms = c.put_branched.new.kept.numbers in
    let none : c.forget.new.self.numbers ≡ take (length c.args.plan.now.given) c.args.kept.now.numbers = search rules in
    IfSome_then c.put_branched.result (c.put_branched.ensures.puts depth slots planned) (λ end puts. (ms, puts.0, subst (λ ns. PutsSlots slots packet.bytes.now packet.end from ns (come end puts.0) ms) none puts.1, puts.2))
