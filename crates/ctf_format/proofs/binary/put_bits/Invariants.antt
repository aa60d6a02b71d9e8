use Rattle.std.proofs.Common.{◌≡◌, ◌+◌, ◌-◌, ◌*◌, ◌/◌, ◌^◌, ◌++◌, take}
use Rattle.ctf_format.specs.Numbers.{bit_digits}
use Rattle.ctf_format.proofs.binary.put_bits.Given as goal

abbrev pub invariant-loop-i : goal.invariant-loop-i
invariant-loop-i l = take (l.at + 16 * l.i) l.line ≡ take l.at l.fn.line ++ bit_digits (16 * l.i) (l.moved / 2 ^ (64 - 16 * l.i))
