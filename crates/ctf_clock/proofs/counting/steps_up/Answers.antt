use Rattle.std.proofs.Common.{◌^◌, ◌<◌, subst, sym, arith}
use Rattle.ctf_clock.proofs.Upward.{masked, steps_up-lt}
use Rattle.ctf_clock.proofs.counting.steps_up.Goals as goal

pub returns-clause-value : goal.returns-clause-value
returns-clause-value c =
    let e = c.bits.ensures.value in
    masked c.args.width c.bits.result c.args.from c.args.to (omega arith) (omega arith) (omega arith)

pub returns-clause-bound : goal.returns-clause-bound
returns-clause-bound c =
    let e = c.bits.ensures.value in
    let v = masked c.args.width c.bits.result c.args.from c.args.to (omega arith) (omega arith) (omega arith) in
    let h = steps_up-lt c.args.width c.args.from c.args.to in
    subst (λ x. x < 2 ^ c.args.width) (sym v) h
