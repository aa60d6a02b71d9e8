-- Texts that are written into a slice at an index.
use Rattle.std.specs.Prelude.{◌≡◌, ℕ, ◌+◌, List, ◌++◌, length, take}

-- A text is in the new slice from an index to its end, and the old slice before it.
pub record IsPut (old new : List ℕ) (at end : ℕ) (text : List ℕ) : Type 0 where
  pub ends : end ≡ at + length text
  pub stands : take end new ≡ take at old ++ text
