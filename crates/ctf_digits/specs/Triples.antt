-- Three decimal digits.
use Rattle.std.specs.Prelude.{ℕ, ◌+◌, ◌*◌, ◌/◌, ◌%◌}

-- the digits of a number below 1000 as they are printed, the first in the lowest byte (own)
abbrev pub triple : ℕ → ℕ
triple n = 48 + n / 100 + (48 + n / 10 % 10) * 256 + (48 + n % 10) * 65536
