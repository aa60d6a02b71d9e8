-- What is printed for a name.
use Rattle.std.specs.Prelude.{ℕ, List, [], ◌∷◌, ◌++◌, if◌then◌else◌, ◌==◌, codes}
use Rattle.ctf_class.specs.Escapes.{escaped}

-- a member's name: of a longer name one leading `_` is not shown (own)
abbrev pub shown_name : List ℕ → List ℕ
shown_name [] = []
shown_name (first ∷ []) = first ∷ []
shown_name (first ∷ second ∷ rest) = if first == 95 then second ∷ rest else first ∷ second ∷ rest

-- what is before a member's value (own)
abbrev pub field_text : List ℕ → List ℕ
field_text name = shown_name name ++ codes " = "

-- a label, in quotes (own)
abbrev pub label_text : List ℕ → List ℕ
label_text name = codes "\"" ++ (escaped name ++ codes "\"")
