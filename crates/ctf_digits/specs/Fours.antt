-- Up to four decimal digits.
use Rattle.std.specs.Prelude.{ℕ, ◌+◌, ◌*◌, ◌/◌, ◌%◌, ◌^◌, nat_lt, if◌then◌else◌}

-- the digits of a number below 10000 as they are printed, with leading zeros, the first in the lowest byte (own)
abbrev pub four : ℕ → ℕ
four n =
    48 + n / 1000 + (48 + n / 100 % 10) * 2 ^ 8 + (48 + n / 10 % 10) * 2 ^ 16
    + (48 + n % 10) * 2 ^ 24

-- how many of four digits it does not have (own)
abbrev pub missing : ℕ → ℕ
missing n =
    if nat_lt n 10 then 3 else (if nat_lt n 100 then 2 else (if nat_lt n 1000 then 1 else 0))

-- the digits that it has (own)
abbrev pub few : ℕ → ℕ
few n = four n / 2 ^ (8 * missing n)
