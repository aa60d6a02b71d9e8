-- Turns as single numbers: the time in the bits from 64 up, whether there is one in the bit below, and the stream's
-- number in the 63 below that (own).
use Rattle.std.specs.Prelude.{◌≡◌, ℕ, zero, suc, ◌+◌, ◌<◌, ◌⊎◌, ◌/◌, ◌%◌, ◌^◌, ℤ, pos, ◌-ℤ◌, Option, Some, None}
use Rattle.ctf_merge.specs.Turns.{Turn}

-- none, or one that begins with the least number of 64 bits
abbrev pub time_if : ℕ → ℕ → Option ℤ
time_if zero time = None
time_if (suc n) time = Some (pos time -ℤ pos (2 ^ 63))

-- what is above a number: the last bit says whether there is a time
abbrev pub time_at : ℕ → Option ℤ
time_at above = time_if (above % 2) (above / 2)

abbrev pub turn_of_key : ℕ → Turn
turn_of_key key = record { time = time_at (key / (2 ^ 63)); number = key % (2 ^ 63) }

-- where there is no time, 0 is in its place
abbrev pub IsTimed : ℕ → Type 0
IsTimed above = (above ≡ 0) ⊎ (above % 2 ≡ 1)

-- the number of a turn: the greatest number of 63 bits is no stream's
pub record IsKey (key : ℕ) : Type 0 where
  pub timed : IsTimed (key / 2 ^ 63)
  pub numbered : key % 2 ^ 63 + 1 < 2 ^ 63
  pub short : key < 2 ^ 128
