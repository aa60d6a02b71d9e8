use Rattle.std.proofs.Common.{arith}
use Rattle.ctf_options.proofs.Digits.{numbers_small}
use Rattle.ctf_options.proofs.number.number_of.Goals as goal

pub returns-clause-bound : goal.returns-clause-bound
returns-clause-bound c = numbers_small c.args.text.now c.args.count c.number.result (omega (arith, c.if-text-count.false)) c.number.ensures
