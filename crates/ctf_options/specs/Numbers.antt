-- Numbers as words of a command line write them (own).
use Rattle.std.specs.Prelude.{◌==◌, ◌&&◌, ◌^◌, ℕ, ℤ, pos, neg_ℤ, Bool, List, Option, Some, None, length, drop, nat_lt, option_and_then, if◌then◌else◌}
use Rattle.std.specs.List.{position_or_len, before_first, after_first}
use Rattle.std.specs.Str.{all_ascii_digits}
use Rattle.std.specs.Str.Parse.{digits_value, starts_with_minus}
use Rattle.ctf_clock.specs.Clock.{fits}

-- what is before and after the first byte of a kind
abbrev pub halves : ℕ → List ℕ → Option (List ℕ × List ℕ)
halves mark text =
    if nat_lt (position_or_len (λ b. b == mark) text) (length text)
    then Some (before_first (λ b. b == mark) text, after_first (λ b. b == mark) text)
    else None

-- one decimal digit or more, and nothing else
abbrev pub is_digits : List ℕ → Bool
is_digits text = nat_lt 0 (length text) && all_ascii_digits text

-- the number of 64 bits that decimal digits write
abbrev pub number_in : List ℕ → Option ℕ
number_in text =
    if is_digits text && nat_lt (digits_value 10 text) (2 ^ 64) then Some (digits_value 10 text)
    else None

-- the number of 64 bits that just so many decimal digits write
abbrev pub number_of : ℕ → List ℕ → Option ℕ
number_of count text = if length text == count then number_in text else None

-- a number and its sign, where 64 bits hold it in two's complement
abbrev pub signed : Bool → ℕ → Option ℤ
signed is_negative n =
    let number = if is_negative then neg_ℤ (pos n) else pos n in
    if fits number then Some number else None

-- the text after a minus that may come first
abbrev pub magnitude : List ℕ → List ℕ
magnitude text = if starts_with_minus text then drop 1 text else text

-- digits after a minus that may come first
abbrev pub integer_in : List ℕ → Option ℤ
integer_in text = option_and_then (signed (starts_with_minus text)) (number_in (magnitude text))
