-- Integers whose place is known beforehand.
use Rattle.std.specs.Prelude.{ℕ, ℤ, Bool, pos, ◌+◌, ◌*◌, List, if◌then◌else◌}
use Rattle.ctf_bits.specs.declared.number.Order.{Order}
use Rattle.ctf_bits.specs.Number.{number, signed_number}

-- where an integer is, in bits after the first one of a byte, of how many bits it is, and whether it is in two's
-- complement
pub record Placed : Type 0 where
  pub place : ℕ
  pub size : ℕ
  pub is_signed : Bool

-- its number in a byte order, where that byte is after so many others (CTF 1.8.3, section 4.1.5)
abbrev pub number_after : Order → Placed → List ℕ → ℕ → ℤ
number_after order w bytes first =
    if w.is_signed then signed_number order bytes (8 * first + w.place) w.size
    else pos (number order bytes (8 * first + w.place) w.size)
