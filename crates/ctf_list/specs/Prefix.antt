-- The beginning of a list (own).
use Rattle.std.specs.Prelude.{Bool, false, List, [], ◌∷◌}

-- there is a first element, and it passes
abbrev pub begins : {A : Type 0} → (A → Bool) → List A → Bool
begins test [] = false
begins test (x ∷ xs) = test x
