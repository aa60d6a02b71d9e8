use Rattle.std.proofs.Common.{arith, ◌<◌, ◌*◌, length}
use Rattle.ctf_options.proofs.Scales.{scaled}
use Rattle.ctf_options.proofs.time.fraction.Goals as goal

pub returns-clause-bound : goal.returns-clause-bound
returns-clause-bound c = rw c.pow-scale.ensures (scaled _ (length c.args.digits.now) (omega arith) c.in_ok-number.ensures.bound)

pub overflow_cast-result : goal.overflow_cast-result
overflow_cast-result c =
    let small : c.in_ok-number.number * c.pow-scale.result < 1000000000 = rw c.pow-scale.ensures (scaled _ (length c.args.digits.now) (omega arith) c.in_ok-number.ensures.bound) in
    omega arith
