use Rattle.std.proofs.Common.{refl}
use Rattle.ctf_cli.specs.Ends.{settled, failed, refused, left}
use Rattle.ctf_cli.proofs.printing.pass_on.Goals as goal

pub returns-in-WriteFailed-clause-passes : goal.returns-in-WriteFailed-clause-passes
returns-in-WriteFailed-clause-passes g c = λ tells. rw c.in-WriteFailed.is (left refl)

pub returns-in-Ok-clause-passes : goal.returns-in-Ok-clause-passes
returns-in-Ok-clause-passes g c = λ tells.
    settled c.args.outcome c.in_default.not-WriteFailed c.in-Ok.ensures.settles (c.settle.ensures.keeps tells) (record { failures = c.in-Ok.ensures.failed; refusals = c.in-Ok.ensures.refused })

pub returns-in-Err-Failed-clause-passes : goal.returns-in-Err-Failed-clause-passes
returns-in-Err-Failed-clause-passes g c = λ tells.
    let counts = rw c.in-Err-Failed.field-0-is at c.in-Err-Failed.ensures in
    failed c.args.outcome c.in_default.not-WriteFailed (c.settle.ensures.keeps tells) (record { failures = counts.failed; refusals = counts.refused })

pub returns-in-Err-NoMemory-clause-passes : goal.returns-in-Err-NoMemory-clause-passes
returns-in-Err-NoMemory-clause-passes g c = λ tells.
    let counts = rw c.in-Err-NoMemory.field-0-is at c.in-Err-NoMemory.ensures in
    refused c.args.outcome c.in_default.not-WriteFailed (c.settle.ensures.keeps tells) (record { failures = counts.failed; refusals = counts.refused })
