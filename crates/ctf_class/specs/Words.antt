-- Texts in words of eight bytes.
use Rattle.std.specs.Prelude.{ℕ, List, [], take, Option, Some, None}
use Rattle.std.specs.Int.{w64, to_le_bytes}
use Rattle.std.specs.List.{flat_map}

-- the first bytes of some words, the lowest bits of each word first (own)
abbrev pub first_bytes : List ℕ → ℕ → List ℕ
first_bytes words count = take count (flat_map (to_le_bytes w64) words)

-- the words of a list that may be missing
abbrev pub words_in : Option (List ℕ) → List ℕ
words_in (Some words) = words
words_in None = []
