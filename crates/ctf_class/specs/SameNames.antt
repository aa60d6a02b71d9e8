-- Elements that are the same as one before them.
use Rattle.std.specs.Prelude.{Bool, false, ◌||◌, List, [], ◌∷◌}
use Rattle.std.specs.List.{list_any}

abbrev pub has_twins : {X : Type 0} → (X → X → Bool) → List X → Bool
has_twins same [] = false
has_twins same (x ∷ xs) = list_any (same x) xs || has_twins same xs
