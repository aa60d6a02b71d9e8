use Rattle.std.proofs.Common.{◌-◌, arith}
use Rattle.ctf_bits.proofs.Windows.{ones}
use Rattle.ctf_bits.proofs.short.ShortInteger.new.Goals as goal

pub invariant_of-result : goal.invariant_of-result
invariant_of-result c = (c.requires.some_bits, c.if-size-gt-LONGEST.false, ones c.args.size (64 - c.args.size) (omega (arith, c.if-size-gt-LONGEST.false)))
