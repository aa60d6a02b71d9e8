-- Names in the order of their bytes.
use Rattle.std.specs.Prelude.{◌≡◌, ℕ, ◌-◌, ◌<◌, List, [], length, get_or}
use Rattle.std.specs.Ordering.{nat_cmp}
use Rattle.std.specs.declared.cmp.Ordering.TheVariants.{Less}
use Rattle.std.specs.Cmp.Lexicographic.{slice_cmp}
use Rattle.ctf_class.specs.Ranks.{place_in}

-- the name of a rank
abbrev pub name_in : List (List ℕ) → List ℕ → ℕ → List ℕ
name_in names order rank = get_or names (place_in order rank) []

-- there is a name of a rank, which comes after that of the rank before
pub record IsNext (names : List (List ℕ)) (order : List ℕ) (rank : ℕ) : Type 0 where
  pub within : place_in order rank < length names
  pub after : 0 < rank
      → slice_cmp nat_cmp (name_in names order (rank - 1)) (name_in names order rank) ≡ Less

-- the names come one after the other in an order
pub record AreAscending (names : List (List ℕ)) (order : List ℕ) : Type 0 where
  pub within : (rank : ℕ) → rank < length names → place_in order rank < length names
  pub ascending : (rank later : ℕ) → rank < later → later < length names
      → slice_cmp nat_cmp (name_in names order rank) (name_in names order later) ≡ Less
