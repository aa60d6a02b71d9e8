use Rattle.std.proofs.Common.{refl}
use Rattle.ctf_format.specs.Records.{after_members}
use Rattle.ctf_format.proofs.passed_record.pass_elements.Goals as goal

pub returns-clause-passes : goal.returns-clause-passes
returns-clause-passes c = λ index class are.
    let ends = c.in_ok-ends.ends in
    let counts = c.in_ok-count.ensures index are.0 are.1 in
    let passes = c.in_ok-ends.ensures.passes (after_members index counts.0) class are.2.0 are.0 are.2.1 are.2.2 counts.2 in
    λ before. (let p = passes before in (p.0, (counts.0, counts.1, (ends.more, refl, p.1))))
