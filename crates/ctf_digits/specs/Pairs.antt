-- Two decimal digits.
use Rattle.std.specs.Prelude.{ℕ, ◌+◌, ◌*◌, ◌/◌, ◌%◌}

-- the digits of a number below 100 as they are printed, the first in the lower byte (own)
abbrev pub pair : ℕ → ℕ
pair n = 48 + n / 10 + (48 + n % 10) * 256
