-- Pieces in a row: a list that is the elements of pieces, one after the other (own).
use Rattle.std.specs.Prelude.{◌≡◌, List, [], ◌∷◌, ◌++◌}
use Rattle.std.specs.List.{flat_map}

-- The relation holds of each piece before what follows it: the elements of the later pieces and what is after them all.
abbrev pub AllStand : {P A : Type 0} → (P → List A) → (P → List A → Type 0) → List P → List A
    → Type 0
AllStand elements Stands [] after = Unit {0}
AllStand elements Stands (piece ∷ pieces) after =
    Stands piece (flat_map elements pieces ++ after) × AllStand elements Stands pieces after

-- the relation holds of no piece at the beginning of this list
abbrev pub NothingStands : {P A : Type 0} → (P → List A) → (P → List A → Type 0) → List A → Type 0
NothingStands {P} {A} elements Stands list =
    (piece : P) (after : List A) → list ≡ elements piece ++ after → Stands piece after → ⊥
