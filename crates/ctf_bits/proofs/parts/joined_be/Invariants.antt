use Rattle.std.proofs.Common.{◌≡◌, ◌-◌, ◌*◌}
use Rattle.ctf_bits.specs.declared.number.Order.TheVariants.{Be}
use Rattle.ctf_bits.specs.Number.{number}
use Rattle.ctf_bits.proofs.parts.joined_be.Given as goal

abbrev pub invariant-loop-i : goal.invariant-loop-i
invariant-loop-i l = l.value ≡ number Be l.bytes l.shift (8 * l.i - l.shift)
