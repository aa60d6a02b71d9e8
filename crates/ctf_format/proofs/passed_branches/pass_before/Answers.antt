use Rattle.std.proofs.Common.{◌≡◌, [], refl, sym, subst, rules, arith}
use Rattle.std.proofs.lemmas.List.{nil_from_length}
use Rattle.ctf_class.specs.Records.{AreRuns}
use Rattle.ctf_format.specs.Passing.{Passes}
use Rattle.ctf_format.specs.Records.{PutsFields, reached}
use Rattle.ctf_format.proofs.passed_branches.pass_before.Goals as goal

pub returns-then-is_empty-clause-passes : goal.returns-then-is_empty-clause-passes
returns-then-is_empty-clause-passes c = λ slots are.
    let packet = c.args.packet.now in
    let from = c.args.from in
    let empty : c.args.runs.now ≡ [] = nil_from_length c.args.runs.now (search (rules, arith)) in
    let none : slots ≡ [] = subst (AreRuns slots) empty are in
    subst (λ ss. Passes (λ before after. PutsFields ss packet.bytes.now packet.end (reached from before) (reached from after))) (sym none) (λ before. (before, refl))
