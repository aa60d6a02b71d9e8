use Rattle.std.proofs.Common.{arith}
use Rattle.ctf_format.proofs.HexadecimalLemmas.{count_by_bits}
use Rattle.ctf_format.proofs.hexadecimal.count_digits.Goals as goal

pub returns-clause-value : goal.returns-clause-value
returns-clause-value c = count_by_bits c.args.number _ c.ilog2.result c.max.ensures c.ilog2.ensures.power_le c.ilog2.ensures.next_power_gt (omega arith)
