use Rattle.std.proofs.Common.{refl, arith}
use Rattle.ctf_class.proofs.align.Align.one_bit.Goals as goal

pub invariant_of-result : goal.invariant_of-result
invariant_of-result c = record { exponent = 0; bounded = omega arith; value = refl }
