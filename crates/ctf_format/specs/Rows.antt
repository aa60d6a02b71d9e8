-- Texts one after the other. Bytes are written as numbers: 32 is a space, 44 a comma, 91 and 93 are `[` and
-- `]`, 123 and 125 are `{` and `}`.
use Rattle.std.specs.Prelude.{ℕ, List, [], ◌∷◌, ◌++◌}

-- texts, each after a space: before the first comes a mark, before each other a comma (own)
abbrev pub row : ℕ → List (List ℕ) → List ℕ
row mark [] = []
row mark (text ∷ texts) = mark ∷ 32 ∷ (text ++ row 44 texts)

-- texts with commas between two marks, as in `{ a, b }`, and `{ }` where there are none (own)
abbrev pub enclosed : ℕ → ℕ → List (List ℕ) → List ℕ
enclosed left right [] = left ∷ 32 ∷ right ∷ []
enclosed left right (text ∷ texts) = row left (text ∷ texts) ++ (32 ∷ right ∷ [])

-- texts with commas between them (own)
abbrev pub joined : List (List ℕ) → List ℕ
joined [] = []
joined (text ∷ texts) = text ++ row 44 texts
