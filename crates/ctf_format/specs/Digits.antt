-- What digits are worth (own).
use Rattle.std.specs.Prelude.{ℕ, zero, suc, ◌/◌, ◌%◌, List, [], ◌∷◌, ◌++◌}

-- what so many digits of a number are worth in base 16, the last of them last
unfoldable pub sixteens : ℕ → ℕ → List ℕ
sixteens zero n = []
sixteens (suc k) n = sixteens k (n / 16) ++ (n % 16 ∷ [])
