-- Items in an order, by their ranks.
use Rattle.std.specs.Prelude.{◌≡◌, ℕ, ◌<◌, List, length, get_or}

-- the place of the item of a rank: where the order does not say it, the rank
abbrev pub place_in : List ℕ → ℕ → ℕ
place_in order rank = get_or order rank rank

-- a place has a rank in an order
abbrev pub Holds : List ℕ → ℕ → Type 0
Holds order place = (rank : ℕ) × (rank < length order) × (place_in order rank ≡ place)

-- each item has a rank
pub record HasRanks {X : Type 0} (items : List X) (order : List ℕ) : Type 0 where
  pub rank : (place : ℕ) → place < length items
      → (rank : ℕ) × (rank < length items) × (place_in order rank ≡ place)
