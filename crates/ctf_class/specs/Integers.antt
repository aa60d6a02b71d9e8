-- How many bits integers have, and how they mostly are.
use Rattle.std.specs.Prelude.{◌≡◌, ℕ, max}
use Rattle.ctf_bits.specs.declared.number.Order.TheVariants.{Le}
use Rattle.ctf_class.specs.declared.integer.Base.TheVariants.{Decimal}
use Rattle.ctf_class.specs.declared.integer.Integer.{Integer}

-- how many bits an integer has, at least one: the size that is kept is never 0
abbrev pub bits_of : Integer → ℕ
bits_of i = max 1 i.size

-- an integer is usual: in decimal, little endian
abbrev pub IsUsual : Integer → Type 0
IsUsual i = (i.base ≡ Decimal) × (i.order ≡ Le)
