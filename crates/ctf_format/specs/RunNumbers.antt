-- Numbers of runs and of structures: integers whose distances are known beforehand (all own).
use Rattle.std.specs.Prelude.{◌≡◌, ℕ, ℤ, pos, ◌+◌, ◌*◌, false, List, ◌++◌, if◌then◌else◌}
use Rattle.ctf_bits.specs.Number.{number, signed_number}
use Rattle.ctf_class.specs.Integers.{bits_of, IsUsual}
use Rattle.ctf_class.specs.declared.integer.Integer.{Integer}
use Rattle.ctf_class.specs.declared.planned_number.PlannedNumber.{PlannedNumber}
use Rattle.ctf_format.specs.Numbers.{number_text}

-- the number of an integer at a place (CTF 1.8.3, section 4.1.5)
abbrev pub number_at : Integer → List ℕ → ℕ → ℤ
number_at i packet place =
    if i.is_signed then signed_number i.order packet place (bits_of i)
    else pos (number i.order packet place (bits_of i))

-- where one is, in a run that begins after so many bytes
abbrev pub place_in : ℕ → PlannedNumber → ℕ
place_in first n = 8 * first + n.window.place

-- what is printed of one there
abbrev pub run_text : List ℕ → ℕ → PlannedNumber → List ℕ
run_text packet first n =
    n.ready ++ number_text n.integer (number_at n.integer packet (place_in first n))

-- a window is that of its integer, which is usual where it is not special
pub record IsPlaced (n : PlannedNumber) : Type 0 where
  pub size : n.window.size ≡ bits_of n.integer
  pub sign : n.window.is_signed ≡ n.integer.is_signed
  pub usual : n.is_special ≡ false → IsUsual n.integer
