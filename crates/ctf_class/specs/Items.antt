-- Items of a list.
use Rattle.std.specs.Prelude.{◌==◌, ℕ, List, [], ◌∷◌, Option, Some, None, find}

-- the first item of a number (own)
abbrev pub first_of_id : {T : Type 0} → (T → ℕ) → ℕ → List T → Option T
first_of_id id_of id items = find (λ item. id_of item == id) items

-- the item of a list that has just one (own)
abbrev pub only_item : {T : Type 0} → List T → Option T
only_item [] = None
only_item (item ∷ []) = Some item
only_item (first ∷ second ∷ rest) = None
