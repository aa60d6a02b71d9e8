-- How numbers are shown.
use Rattle.std.specs.Prelude.{ℕ, zero, suc, ◌+◌, ◌-◌, ◌/◌, ◌%◌, ◌^◌, ℤ, pos, negsuc, true, List, [], ◌∷◌, ◌++◌, codes}
use Rattle.std.specs.Fmt.{digits, signed_decimal}
use Rattle.ctf_class.specs.declared.integer.Integer.{Integer}
use Rattle.ctf_class.specs.declared.integer.Base.{Base}
use Rattle.ctf_class.specs.declared.integer.Base.TheVariants.{Binary, Octal, Decimal, Hexadecimal}

-- the bits of a number in two's complement of a size, as an unsigned number (CTF 1.8.3, section 4.1.5)
unfoldable pub pattern : ℕ → ℤ → ℕ
pattern size (pos n) = n % 2 ^ size
pattern size (negsuc n) = 2 ^ size - suc (n % 2 ^ size)

-- the lowest bits of a number, the highest of them first, a digit each (own)
abbrev pub bit_digits : ℕ → ℕ → List ℕ
bit_digits zero n = []
bit_digits (suc k) n = (48 + n / 2 ^ k % 2) ∷ bit_digits k n

-- a number of a size in a base: decimal with its sign, or else the digits of its bits, which are those of
-- the whole size in binary and have no zeros before them elsewhere (own; the bases are those of CTF 1.8.3,
-- section 4.1.5)
abbrev pub in_base : Base → ℕ → ℤ → List ℕ
in_base Decimal size z = signed_decimal z
in_base Hexadecimal size z = codes "0x" ++ digits 16 true (pattern size z)
in_base Octal size z = codes "0" ++ digits 8 true (pattern size z)
in_base Binary size z = codes "0b" ++ bit_digits size (pattern size z)

-- a number of an integer class
abbrev pub number_text : Integer → ℤ → List ℕ
number_text integer z = in_base integer.base integer.size z
