use Rattle.std.proofs.Common.{◌≡◌, ◌-◌, ◌*◌}
use Rattle.ctf_bits.specs.declared.number.Order.TheVariants.{Le}
use Rattle.ctf_bits.specs.Number.{number}
use Rattle.ctf_bits.proofs.parts.joined_le.Given as goal

abbrev pub invariant-loop-i : goal.invariant-loop-i
invariant-loop-i l = l.value ≡ number Le l.bytes l.shift (8 * l.i - l.shift)
