-- Values that may be missing.
use Rattle.std.specs.Prelude.{List, [], ◌∷◌, Option, Some, None, option_map, option_and_then}

-- the one after the other, where both are there: `do` is written with it
infixl 10 ◌>>=◌
abbrev pub ◌>>=◌ : {A B : Type 0} → Option A → (A → Option B) → Option B
a >>= f = option_and_then f a

-- the values, where all of them are there
abbrev pub all_there : {A : Type 0} → List (Option A) → Option (List A)
all_there [] = Some []
all_there (None ∷ more) = None
all_there (Some a ∷ more) = option_map (λ others. a ∷ others) (all_there more)

-- what is made of a value, where there is one: that it can't be made is not that there is none
abbrev pub if_there : {A B : Type 0} → (A → Option B) → Option A → Option (Option B)
if_there make None = Some None
if_there make (Some a) = option_map (λ b. Some b) (make a)

abbrev pub first : {A : Type 0} → List A → Option A
first [] = None
first (a ∷ more) = Some a

-- the only one of a list
abbrev pub only : {A : Type 0} → List A → Option A
only [] = None
only (a ∷ []) = Some a
only (a ∷ second ∷ more) = None
