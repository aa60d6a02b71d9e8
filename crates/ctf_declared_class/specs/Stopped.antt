-- Sums that stop (own).
use Rattle.std.specs.Prelude.{ℕ, ◌^◌, ◌-◌, min}

-- a number, or the largest of 32 bits where it is beyond
abbrev pub stopped : ℕ → ℕ
stopped n = min n (2 ^ 32 - 1)
