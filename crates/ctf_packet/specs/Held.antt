-- The numbers that an integer's width holds.
use Rattle.std.specs.Prelude.{ℕ, ℤ, pos, negsuc, ◌-◌, ◌^◌, ◌<◌, ◌≤◌}
use Rattle.ctf_decode.specs.Values.{Val, unsigned, signed}
use Rattle.ctf_decode.specs.Forms.{Form, Parts, integer, enumeration, structure, variant, array, no_parts, part}

-- a number that n bits hold in two's complement (CTF 1.8.3, section 4.1.5)
abbrev pub IsSigned : ℕ → ℤ → Type 0
IsSigned n (pos x) = x < 2 ^ (n - 1)
IsSigned n (negsuc x) = x < 2 ^ (n - 1)

-- a value whose number n bits hold
abbrev pub IsHeld : ℕ → Val → Type 0
IsHeld n (unsigned x) = x < 2 ^ n
IsHeld n (signed z) = IsSigned n z
IsHeld n _ = Unit {0}

-- the size of an integer, as each class keeps it
abbrev pub IsWidth : ℕ → Type 0
IsWidth n = (1 ≤ n) × (n ≤ 64)

abbrev mutual
  -- each integer of a class has such a size
  pub HasWidths : Form → Type 0
  HasWidths (integer a i) = IsWidth i.size
  HasWidths (enumeration a i) = IsWidth i.size
  HasWidths (structure a ps) = HaveWidths ps
  HasWidths (variant a tag choices ps) = HaveWidths ps
  HasWidths (array a many k) = HasWidths k
  HasWidths _ = Unit {0}

  pub HaveWidths : Parts → Type 0
  HaveWidths no_parts = Unit {0}
  HaveWidths (part name k ps) = HasWidths k × HaveWidths ps
