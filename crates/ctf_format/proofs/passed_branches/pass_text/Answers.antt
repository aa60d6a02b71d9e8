use Rattle.ctf_format.specs.declared.planned_record.Reach.{Reach}
use Rattle.ctf_format.proofs.BranchesLemmas.{slot_passes, text_there}
use Rattle.ctf_format.proofs.passed_branches.pass_text.Goals as goal

pub returns-clause-passes : goal.returns-clause-passes
returns-clause-passes c = λ s many kept is counts.
    let end = c.in_ok-end.end in
    let ns = c.args.kept.now.numbers in
    let to : Reach = record { place = end; more = 0 } in
    slot_passes s c.args.packet.now c.args.place to ns ns (λ line.
    let p = c.in_ok-end.ensures.passes s.class.align line in
    (p.0, text_there s many c.args.count c.args.packet.now c.args.place end c.in_ok-count.count 0 line p.0 ns kept is counts c.requires.start c.in_ok-count.ensures p.1))
