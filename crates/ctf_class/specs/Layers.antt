-- How labels in layers are found.
use Rattle.std.specs.Prelude.{◌≡◌, ℕ, ℤ, true, false, ◌⊎◌, ◌<◌, ◌≤◌, List, length, Option, MatchOption}
use Rattle.ctf_class.specs.declared.span.Label.{Label}
use Rattle.ctf_class.specs.Labels.{covers, label_at}
use Rattle.ctf_class.specs.LabelSearch.{AreApart}
use Rattle.ctf_class.specs.Ranks.{Holds}

-- labels of a layer were taken out of places, and the others are left
pub record Splits (labels : List Label) (places layer left : List ℕ) : Type 0 where
  pub apart : AreApart labels layer (length layer)
  pub all : (place : ℕ) → Holds places place → Holds layer place ⊎ Holds left place

-- no label from a place on covers a number
pub record NoneCovers (labels : List Label) (z : ℤ) (begin : ℕ) : Type 0 where
  pub none : (place : ℕ) → begin ≤ place → covers (label_at labels place).span z ≡ false

-- the first label from a place on that covers a number
pub record IsNextCovering (labels : List Label) (z : ℤ) (begin place : ℕ) : Type 0 where
  pub not_before : begin ≤ place
  pub here : covers (label_at labels place).span z ≡ true
  pub first : (before : ℕ) → begin ≤ before → before < place
      → covers (label_at labels before).span z ≡ false

-- the place of the first label from a place on that covers a number, if there is one
abbrev pub FindsCovering : List Label → ℤ → ℕ → Option ℕ → Type 0
FindsCovering labels z begin found =
    MatchOption found (NoneCovers labels z begin) (IsNextCovering labels z begin)
