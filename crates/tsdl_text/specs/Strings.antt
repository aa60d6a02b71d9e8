-- What a reader of strings computes. Laws tie it to the definitions of `Characters`.
use Rattle.std.specs.Prelude.{ℕ, zero, suc, ◌+◌, ◌||◌, ◌==◌, nat_lt, if◌then◌else◌, List, [], ◌∷◌, length, take, drop, Option, Some, None}
use Rattle.std.specs.Option.{option_map_or}
use Rattle.std.specs.List.{prefix_len}
use Rattle.std.specs.Char.{is_digit}
use Rattle.tsdl_text.specs.Bytes.{number}
use Rattle.tsdl_text.specs.Characters.{simple_escape}

-- how many digits are at the beginning, counting no further than a limit
abbrev pub digit_count : ℕ → ℕ → List ℕ → ℕ
digit_count base most text = prefix_len (λ digit. is_digit digit base) (take most text)

-- the byte of a numeric escape and how many bytes it takes, `skipped` of which are before its digits
unfoldable pub numeric_at : ℕ → ℕ → ℕ → List ℕ → Option (ℕ × ℕ)
numeric_at base most skipped text =
    let count = digit_count base most text in
    let value = number base (take count text) in
    if count == 0 || nat_lt 255 value then None else Some (value, skipped + count)

unfoldable pub escape_at : List ℕ → Option (ℕ × ℕ)
escape_at [] = None
escape_at (c ∷ text) =
    if c == 120 then numeric_at 16 2 2 text
    else option_map_or (λ value. Some (value, 2)) (simple_escape c) (numeric_at 8 3 1 (c ∷ text))

-- the byte that the first character of a text stands for, and how many bytes the character takes
unfoldable pub character_at : List ℕ → Option (ℕ × ℕ)
character_at [] = None
character_at (b ∷ text) =
    if b == 92 then escape_at text
    else (if b == 34 || b == 10 then None else Some (b, 1))

-- what the characters at the beginning of a text stand for, as far as there are characters, at most `turns`
unfoldable pub values : ℕ → List ℕ → List ℕ
values zero text = []
values (suc turns) text =
    option_map_or (λ x. x.0 ∷ values turns (drop x.1 text)) (character_at text) []

-- The bytes that the slice of a string token spells, quotes taken off and escapes undone. At other
-- bytes: what the characters after the first byte stand for, up to where there is no character.
unfoldable pub string_value : List ℕ → List ℕ
string_value slice = values (length slice) (drop 1 slice)
