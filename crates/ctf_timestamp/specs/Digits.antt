-- Decimal digits.
use Rattle.std.specs.Prelude.{ℕ, zero, suc, ◌+◌, ◌/◌, ◌%◌, List, [], ◌∷◌, ◌++◌, codes, decimal}

-- the last so many decimal digits of a number, with zeros before them where it has fewer (own)
unfoldable pub last_digits : ℕ → ℕ → List ℕ
last_digits zero n = []
last_digits (suc count) n = last_digits count (n / 10) ++ (48 + n % 10) ∷ []

-- nanoseconds in seconds: the whole ones, a dot and nine digits (own)
unfoldable pub seconds_text : ℕ → List ℕ
seconds_text n = decimal (n / 1000000000) ++ codes "." ++ last_digits 9 (n % 1000000000)
