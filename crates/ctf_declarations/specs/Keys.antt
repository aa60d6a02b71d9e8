-- The keys of names: lists of numbers, of which two are the same where the names are (own).
use Rattle.std.specs.Prelude.{ℕ, ◌+◌, List, [], ◌∷◌, ◌++◌, map, flat_map}
use Rattle.ctf_meaning.specs.Name.{Word, Name, Plain, Struct, Variant, Enum}

-- each byte as one more than it is, and 0 after them
abbrev pub word_key : Word → List ℕ
word_key word = map (λ b. b + 1) word ++ 0 ∷ []

-- the kind of the name, and its words
abbrev pub key_of : Name → List ℕ
key_of (Plain words) = 0 ∷ flat_map word_key words
key_of (Struct word) = 1 ∷ word_key word
key_of (Variant word) = 2 ∷ word_key word
key_of (Enum word) = 3 ∷ word_key word
