-- Which labels of an enumeration are shown for a number.
use Rattle.std.specs.Prelude.{◌≡◌, ℕ, ℤ, pos, Bool, true, false, not, ◌&&◌, ◌+◌, ◌<◌, ◌≤◌, List, [], take, length, get_or, Option, MatchOption}
use Rattle.std.specs.Int.Signed.{le_z}
use Rattle.std.specs.List.{list_any}
use Rattle.std.specs.Str.{bytes_eq}
use Rattle.ctf_class.specs.declared.span.Span.{Span}
use Rattle.ctf_class.specs.declared.span.Label.{Label}

-- whether a number is one of a span's
abbrev pub covers : Span → ℤ → Bool
covers span z = le_z span.first z && le_z z span.last

-- a label that covers no number
abbrev pub no_label : Label
no_label = record { name = []; span = record { first = pos 1; last = pos 0 } }

-- the label at a place
abbrev pub label_at : List Label → ℕ → Label
label_at labels place = get_or labels place no_label

-- whether one of some labels covers a number and has a name
abbrev pub is_shown : List Label → ℤ → List ℕ → Bool
is_shown labels z name =
    list_any (λ (label : Label). covers label.span z && bytes_eq label.name name) labels

-- whether the label at a place covers a number, and none that is before it and covers the number has its name
abbrev pub shows_at : List Label → ℤ → ℕ → Bool
shows_at labels z place =
    covers (label_at labels place).span z
    && not (is_shown (take place labels) z (label_at labels place).name)

-- no label from a place on shows the number
pub record NoneShown (labels : List Label) (z : ℤ) (begin : ℕ) : Type 0 where
  pub none : (place : ℕ) → begin ≤ place → place < length labels → shows_at labels z place ≡ false

-- the first label from a place on that shows the number
pub record IsNextShown (labels : List Label) (z : ℤ) (begin place : ℕ) : Type 0 where
  pub not_before : begin ≤ place
  pub within : place < length labels
  pub shows : shows_at labels z place ≡ true
  pub first : (before : ℕ) → begin ≤ before → before < place → shows_at labels z before ≡ false

-- the place of the first label from a place on that shows the number, if there is one
abbrev pub FindsNext : List Label → ℤ → ℕ → Option ℕ → Type 0
FindsNext labels z begin found =
    MatchOption found (NoneShown labels z begin) (IsNextShown labels z begin)

-- after a label that is shown for a number none is
abbrev pub AreAlone : List Label → Type 0
AreAlone labels = (z : ℤ) (place : ℕ) → shows_at labels z place ≡ true → NoneShown labels z (place + 1)
