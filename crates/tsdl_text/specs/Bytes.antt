-- Classes of bytes, and the numbers that digits spell.
use Rattle.std.specs.Prelude.{ℕ, ◌+◌, ◌*◌, ◌^◌, ◌<◌, Bool, ◌||◌, ◌&&◌, ◌==◌, nat_le, List, [], ◌∷◌, length, IsTrue}
use Rattle.std.specs.List.{list_all}
use Rattle.std.specs.Char.{is_ascii_alphabetic, is_ascii_alphanumeric, digit_value, is_digit}

-- space, tab, newline, vertical tab, form feed, carriage return, as in C
unfoldable pub is_blank : ℕ → Bool
is_blank b = b == 32 || (nat_le 9 b && nat_le b 13)

-- a letter or `_`, with which an identifier begins
unfoldable pub is_word_start : ℕ → Bool
is_word_start b = is_ascii_alphabetic b || b == 95

-- a letter, a digit or `_`, with which it goes on (CTF 1.8.3, appendix C.1.3)
unfoldable pub is_word_byte : ℕ → Bool
is_word_byte b = is_ascii_alphanumeric b || b == 95

-- the number that digits spell in a base: each digit times the power of its place, added up
unfoldable pub number : ℕ → List ℕ → ℕ
number base [] = 0
number base (digit ∷ digits) = digit_value digit * base ^ length digits + number base digits

-- these are digits of the base, at least one
pub record AreDigits (base : ℕ) (digits : List ℕ) : Type 0 where
  pub some : 0 < length digits
  pub all : IsTrue (list_all (λ digit. is_digit digit base) digits)
