-- How the labels that cover a number are found.
use Rattle.std.specs.Prelude.{◌≡◌, ℕ, ℤ, true, false, ◌-◌, ◌<◌, ◌≤◌, List, [], length, get_or, Option, MatchOption}
use Rattle.std.specs.Str.{bytes_eq}
use Rattle.ctf_class.specs.declared.span.Span.{Span}
use Rattle.ctf_class.specs.declared.span.Label.{Label}
use Rattle.ctf_class.specs.declared.labels.Search.{Search}
use Rattle.ctf_class.specs.declared.labels.Search.TheVariants.{Apart, Layered, Chained}
use Rattle.ctf_class.specs.Labels.{covers, label_at}
use Rattle.ctf_class.specs.Ranks.{place_in, Holds, HasRanks}
use Rattle.ctf_class.specs.Spans.{AreInOrder}

-- the numbers of the label of a rank
abbrev pub span_in : List Label → List ℕ → ℕ → Span
span_in labels order rank = (label_at labels (place_in order rank)).span

-- the numbers of the labels of so many ranks are one after the other
abbrev pub AreApart : List Label → List ℕ → ℕ → Type 0
AreApart labels order count = AreInOrder (span_in labels order) count

-- the label at a place covers a number, and of the labels of so many ranks no other does
pub record IsRanked (labels : List Label) (order : List ℕ) (count : ℕ) (z : ℤ) (place : ℕ) : Type 0 where
  pub here : covers (label_at labels place).span z ≡ true
  pub only : (rank : ℕ) → rank < count → covers (span_in labels order rank) z ≡ true
      → place_in order rank ≡ place

-- the place of the label that covers a number among those of so many ranks, if there is one
abbrev pub FindsRanked : List Label → List ℕ → ℕ → ℤ → Option ℕ → Type 0
FindsRanked labels order count z found =
    MatchOption found
    ((rank : ℕ) → rank < count → covers (span_in labels order rank) z ≡ false)
    (IsRanked labels order count z)

-- a place is in a layer
abbrev pub InLayers : List (List ℕ) → ℕ → Type 0
InLayers layers place = (i : ℕ) × (i < length layers) × Holds (get_or layers i []) place

-- one past the place of the last label of a name before an end, or 0
pub record IsLast (labels : List Label) (end : ℕ) (name : List ℕ) (kept : ℕ) : Type 0 where
  pub within : kept ≤ end
  pub named : 0 < kept → (label_at labels (kept - 1)).name ≡ name
  pub last : (place : ℕ) → kept ≤ place → place < end
      → bytes_eq (label_at labels place).name name ≡ false

-- for each label the last one before it of its name
pub record IsChain (labels : List Label) (earlier : List ℕ) : Type 0 where
  pub links : (place : ℕ) → place < length labels
      → IsLast labels place (label_at labels place).name (get_or earlier place 0)

-- the labels' numbers are one after the other in each layer, and each label is in one
pub record AreLayers (labels : List Label) (layers : List (List ℕ)) : Type 0 where
  pub apart : (i : ℕ) → i < length layers
      → AreApart labels (get_or layers i []) (length (get_or layers i []))
  pub all : (place : ℕ) → place < length labels → InLayers layers place

-- what is kept finds the labels
abbrev pub Finds : List Label → Search → Type 0
Finds labels (Apart order) = AreApart labels order (length labels) × HasRanks labels order
Finds labels (Layered layers) = AreLayers labels layers
Finds labels (Chained earlier) = IsChain labels earlier
