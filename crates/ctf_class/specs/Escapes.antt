-- How texts are shown.
use Rattle.std.specs.Prelude.{ℕ, ◌+◌, ◌/◌, ◌%◌, List, [], ◌∷◌, ◌++◌, if◌then◌else◌, ◌==◌, ◌||◌, nat_lt, codes}
use Rattle.std.specs.List.{flat_map}

-- a digit from 0 to 15, in lower case (own)
abbrev pub hex_digit : ℕ → ℕ
hex_digit digit = if nat_lt digit 10 then 48 + digit else 87 + digit

-- one byte: `"`, `\`, newline, tab and carriage return after a `\`; other bytes below 0x20 and 0x7F as
-- `\x` and two digits; each other byte as it is (own)
unfoldable pub shown_byte : ℕ → List ℕ
shown_byte byte =
    if byte == 0x22 then codes "\\\"" else
    if byte == 0x5C then codes "\\\\" else
    if byte == 0x0A then codes "\\n" else
    if byte == 0x09 then codes "\\t" else
    if byte == 0x0D then codes "\\r" else
    if nat_lt byte 0x20 || byte == 0x7F
    then codes "\\x" ++ (hex_digit (byte / 16) ∷ hex_digit (byte % 16) ∷ [])
    else byte ∷ []

-- a text, byte by byte (own)
abbrev pub escaped : List ℕ → List ℕ
escaped bytes = flat_map shown_byte bytes
