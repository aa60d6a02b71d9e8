-- What the values of options ask for (own).
use Rattle.std.specs.Prelude.{◌≡◌, ◌-◌, ◌⊎◌, ◌==◌, ℕ, ℤ, pos, Bool, true, false, List, Option, Some, None, IfSome, IsSomeAnd, length, drop, take, is_some, ◌||◌, option_and_then, option_map, if◌then◌else◌, slice_index, int_le}
use Rattle.std.specs.Borrow.{Bor}
use Rattle.jiff.specs.Placed.{IsPosixZone}
use Rattle.jiff_tz.specs.PosixReader.{read_whole}
use Rattle.jiff_tz.specs.declared.timezone.TimeZone.{TimeZone}
use Rattle.jiff_tz.specs.declared.timezone.TimeZone.TheVariants.{UTC}
use Rattle.ctf_clock.specs.declared.moment.Shift.{Shift}
use Rattle.ctf_timestamp.specs.declared.style.ClockStyle.{ClockStyle}
use Rattle.ctf_timestamp.specs.declared.style.ClockStyle.TheVariants.{Time, Date, Seconds, Cycles}
use Rattle.ctf_options.specs.Numbers.{halves, integer_in}
use Rattle.ctf_options.specs.Times.{Names, NamesNone}
use Rattle.ctf_timestamp.specs.declared.trim.Trim.{Trim}

-- the text of a value, where it is given
abbrev pub given : Option (Bor (List ℕ)) → Option (List ℕ)
given value = option_map (λ text. text.now) value

-- the zone: UTC, or the POSIX rule that is given, as jiff reads it
abbrev pub IsZone : Bool → Option (List ℕ) → TimeZone → Type 0
IsZone gmt None zone = zone ≡ UTC
IsZone gmt (Some rule) zone = (gmt ≡ false) × IsPosixZone rule zone

-- UTC was asked for beside a rule, or jiff reads no rule
abbrev pub IsNoZone : Bool → Option (List ℕ) → Type 0
IsNoZone gmt None = ⊥
IsNoZone gmt (Some rule) = (gmt ≡ true) ⊎ (read_whole rule ≡ None)

-- what stamps show, where at most one of three options is given
abbrev pub clock_of : Bool → Bool → Bool → Option ClockStyle
clock_of true false false = Some Cycles
clock_of false true false = Some Date
clock_of false false true = Some Seconds
clock_of false false false = Some Time
clock_of true true seconds = None
clock_of true false true = None
clock_of false true true = None

-- the number that a text writes, and 0 where none is given
abbrev pub integer_or_zero : Option (List ℕ) → Option ℤ
integer_or_zero None = Some (pos 0)
integer_or_zero (Some text) = integer_in text

-- the seconds and the nanoseconds that are added to each time
abbrev pub shift_of : Option (List ℕ) → Option (List ℕ) → Option Shift
shift_of seconds nanos = option_and_then (λ seconds.
    option_map (λ nanos. record { seconds = seconds; nanos = nanos }) (integer_or_zero nanos))
    (integer_or_zero seconds)

-- what is within brackets, where the text begins with one
abbrev pub unbracketed : List ℕ → Option (List ℕ)
unbracketed text =
    if slice_index text 0 == 91
    then (if slice_index (drop 1 text) (length (drop 1 text) - 1) == 93
    then Some (take (length (drop 1 text) - 1) (drop 1 text)) else None)
    else Some text

-- the texts of B and E in `B,E` or `[B,E]`
abbrev pub range_in : List ℕ → Option (List ℕ × List ℕ)
range_in text = option_and_then (halves 44) (unbracketed text)

-- the texts of begin and end: each by its own option, or both by a range
abbrev pub ends_of : Option (List ℕ) → Option (List ℕ) → Option (List ℕ)
    → Option (Option (List ℕ) × Option (List ℕ))
ends_of begin end None = Some (begin, end)
ends_of begin end (Some range) =
    if is_some begin || is_some end then None
    else option_map (λ parts. (Some parts.0, Some parts.1)) (range_in range)

-- the instant that a text names, where there is a text
abbrev pub IsEnd : TimeZone → Option (List ℕ) → Option ℤ → Type 0
IsEnd zone None instant = instant ≡ None
IsEnd zone (Some text) instant = IsSomeAnd instant (Names zone text)

-- there is a text, and it names no instant
abbrev pub IsNoEnd : TimeZone → Option (List ℕ) → Type 0
IsNoEnd zone None = ⊥
IsNoEnd zone (Some text) = NamesNone zone text

-- the begin is not after the end
abbrev pub is_ordered : Option ℤ → Option ℤ → Bool
is_ordered None end = true
is_ordered (Some begin) None = true
is_ordered (Some begin) (Some end) = int_le begin end

-- the span between two ends
abbrev pub IsSpan : TimeZone → Option (List ℕ) × Option (List ℕ) → Trim → Type 0
IsSpan zone texts trim =
    IsEnd zone texts.0 trim.begin × IsEnd zone texts.1 trim.end
    × (is_ordered trim.begin trim.end ≡ true)

-- one of the ends is none, or they are in the wrong order
abbrev pub IsNoSpan : TimeZone → Option (List ℕ) × Option (List ℕ) → Type 0
IsNoSpan zone texts = IsNoEnd zone texts.0 ⊎ IsNoEnd zone texts.1
    ⊎ ((begin : Option ℤ) × (end : Option ℤ) × IsEnd zone texts.0 begin × IsEnd zone texts.1 end
    × (is_ordered begin end ≡ false))

-- what begin, end and range ask for
abbrev pub IsTrim : TimeZone → Option (List ℕ) → Option (List ℕ) → Option (List ℕ) → Trim → Type 0
IsTrim zone begin end range trim =
    IsSomeAnd (ends_of begin end range) (λ texts. IsSpan zone texts trim)

-- they ask for nothing that there is
abbrev pub IsNoTrim : TimeZone → Option (List ℕ) → Option (List ℕ) → Option (List ℕ) → Type 0
IsNoTrim zone begin end range = IfSome (ends_of begin end range) (IsNoSpan zone)
