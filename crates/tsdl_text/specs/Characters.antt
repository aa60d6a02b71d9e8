-- Strings of TSDL (CTF 1.8.3, appendix C.1.6): their characters, their escapes, and the bytes that they spell.
use Rattle.std.specs.Prelude.{◌≡◌, ◌≢◌, ℕ, ◌<◌, ◌≤◌, false, ◌||◌, ◌==◌, if◌then◌else◌, List, [], ◌∷◌, ◌++◌, length, Option, Some, None}
use Rattle.std.specs.Char.{is_digit}
use Rattle.ctf_list.specs.Prefix.{begins}
use Rattle.tsdl_text.specs.Bytes.{number, AreDigits}

-- the byte that a backslash and one more character stand for (CTF 1.8.3, appendix C.1.5)
unfoldable pub simple_escape : ℕ → Option ℕ
simple_escape c =
    if c == 97 then Some 7  -- a
    else (if c == 98 then Some 8  -- b
    else (if c == 102 then Some 12  -- f
    else (if c == 110 then Some 10  -- n
    else (if c == 114 then Some 13  -- r
    else (if c == 116 then Some 9  -- t
    else (if c == 118 then Some 11  -- v
    else (if c == 92 || (c == 39 || (c == 34 || c == 63)) then Some c
    else None)))))))

-- a byte that stands for itself: no quote, no backslash, no newline
pub record IsPlain (b : ℕ) : Type 0 where
  pub no_quote : b ≢ 34
  pub no_backslash : b ≢ 92
  pub no_newline : b ≢ 10

-- the digits of a numeric escape, as many as are there, up to a limit
pub record IsNumeric (base most : ℕ) (digits after : List ℕ) (value : ℕ) : Type 0 where
  pub digits_of : AreDigits base digits
  pub few : length digits ≤ most
  pub ends : length digits < most → begins (λ digit. is_digit digit base) after ≡ false
  pub value_is : value ≡ number base digits
  pub is_byte : value < 256

-- The bytes of one character, and the byte that it stands for, before the bytes `after`. An octal
-- escape has one to three digits, a hexadecimal one or two.
pub data Character : List ℕ → ℕ → List ℕ → Type 0 where
  plain : {b : ℕ} {after : List ℕ} → IsPlain b → Character (b ∷ []) b after
  escape : {c value : ℕ} {after : List ℕ} → simple_escape c ≡ Some value
      → Character (92 ∷ c ∷ []) value after
  octal : {digits after : List ℕ} {value : ℕ} → IsNumeric 8 3 digits after value
      → Character (92 ∷ digits) value after
  hexadecimal : {digits after : List ℕ} {value : ℕ} → IsNumeric 16 2 digits after value
      → Character (92 ∷ 120 ∷ digits) value after

-- Characters up to and with the closing quote, and the bytes that they stand for.
pub data Closes : List ℕ → List ℕ → Type 0 where
  close : Closes (34 ∷ []) []
  next : {bytes rest values : List ℕ} {value : ℕ} → Character bytes value rest → Closes rest values
      → Closes (bytes ++ rest) (value ∷ values)

-- the slice of a string token, and the bytes that the characters between its quotes stand for
pub record StandsFor (slice values : List ℕ) : Type 0 where
  pub inside : List ℕ
  pub opened : slice ≡ 34 ∷ inside
  pub closed : Closes inside values
