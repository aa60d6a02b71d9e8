use Rattle.std.proofs.Common.{◌≡◌, ◌*◌, rules}
use Rattle.ctf_format.proofs.PassingLemmas.{array_passes}
use Rattle.ctf_format.proofs.passed_record.pass_counted.Goals as goal

pub returns-clause-passes : goal.returns-clause-passes
returns-clause-passes c = λ before class k many is element counts.
    let e = c.args.element.now in
    let more = c.in_ok-more.more in
    let counted : more ≡ c.args.count * e.count = search rules in
    array_passes before many class k c.args.packet.now e c.args.place c.in_ok-begin.begin c.args.count more c.in_ok-end.end is element c.in_ok-begin.ensures.begin c.in_ok-begin.ensures.within counted counts (c.in_ok-end.ensures.passes k element)
