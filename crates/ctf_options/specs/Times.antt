-- Points in time as words of a command line write them (own).
use Rattle.std.specs.Prelude.{◌≡◌, ◌+◌, ◌*◌, ◌-◌, ◌^◌, ◌⊎◌, ℕ, ℤ, pos, List, Option, Some, None, IfSome, IsSomeAnd, length, nat_le, option_map, option_and_then, if◌then◌else◌}
use Rattle.std.specs.Str.Parse.{starts_with_minus}
use Rattle.jiff_core.specs.Calendar.{IsDate}
use Rattle.jiff_core.specs.Date.{IsYmd}
use Rattle.jiff_core.specs.Time.{IsTime, IsHms}
use Rattle.jiff_core.specs.declared.civil.datetime.DateTime.{DateTime}
use Rattle.jiff_tz.specs.declared.timezone.TimeZone.{TimeZone}
use Rattle.ctf_timestamp.specs.Zones.{instant_in}
use Rattle.ctf_options.specs.declared.civil.Day.{Day}
use Rattle.ctf_options.specs.declared.civil.TimeOfDay.{TimeOfDay}
use Rattle.ctf_options.specs.Numbers.{halves, number_in, number_of, signed, magnitude}

-- the nanoseconds that 1 to 9 digits after a dot write
abbrev pub fraction_in : List ℕ → Option ℕ
fraction_in digits =
    if nat_le (length digits) 9 then
    option_map (λ n. n * 10 ^ (9 - length digits)) (number_in digits)
    else None

-- what is before the dot, with the nanoseconds after it, out of both parts; without parts the text
abbrev pub with_fraction : List ℕ → Option (List ℕ × List ℕ) → Option (List ℕ × ℕ)
with_fraction text None = Some (text, 0)
with_fraction text (Some parts) = option_map (λ nanos. (parts.0, nanos)) (fraction_in parts.1)

-- what is before the dot, with the nanoseconds after it; a text may have no dot
abbrev pub dotted : List ℕ → Option (List ℕ × ℕ)
dotted text = with_fraction text (halves 46 text)

-- the nanoseconds of S or S.F
abbrev pub nanos_in : List ℕ → Option ℕ
nanos_in text = option_and_then (λ parts.
    option_map (λ seconds. seconds * 1000000000 + parts.1) (number_in parts.0)) (dotted text)

-- the nanoseconds of [-]S[.F], where 64 bits hold them
abbrev pub seconds_in : List ℕ → Option ℤ
seconds_in text = option_and_then (signed (starts_with_minus text)) (nanos_in (magnitude text))

-- month and day, MM-DD
abbrev pub month_in : ℕ → List ℕ × List ℕ → Option Day
month_in year parts = option_and_then (λ month.
    option_map (λ day. record { year = year; month = month; day = day }) (number_of 2 parts.1))
    (number_of 2 parts.0)

-- YYYY-MM-DD
abbrev pub day_in : List ℕ → Option Day
day_in text = option_and_then (λ parts. option_and_then (λ year.
    option_and_then (month_in year) (halves 45 parts.1)) (number_of 4 parts.0)) (halves 45 text)

-- ss or ss.F
abbrev pub second_in : ℕ → ℕ → List ℕ → Option TimeOfDay
second_in hour minute text = option_and_then (λ parts.
    option_map (λ second. record { hour = hour; minute = minute; second = second; nanos = parts.1 })
    (number_of 2 parts.0)) (dotted text)

-- mm, or what is before and after the next colon: mm and ss or ss.F
abbrev pub minute_in : ℕ → List ℕ → Option (List ℕ × List ℕ) → Option TimeOfDay
minute_in hour text None =
    option_map (λ minute. record { hour = hour; minute = minute; second = 0; nanos = 0 })
    (number_of 2 text)
minute_in hour text (Some parts) =
    option_and_then (λ minute. second_in hour minute parts.1) (number_of 2 parts.0)

-- hh:mm, hh:mm:ss or hh:mm:ss.F
abbrev pub clock_in : List ℕ → Option TimeOfDay
clock_in text = option_and_then (λ parts. option_and_then (λ hour.
    minute_in hour parts.1 (halves 58 parts.1)) (number_of 2 parts.0)) (halves 58 text)

-- a date and a time of day with a space between them
abbrev pub civil_in : List ℕ → Option (Day × TimeOfDay)
civil_in text = option_and_then (λ parts. option_and_then (λ day.
    option_map (λ clock. (day, clock)) (clock_in parts.1)) (day_in parts.0)) (halves 32 text)

-- the calendar has the date, and a clock shows the time of day
abbrev pub IsCivil : Day × TimeOfDay → Type 0
IsCivil civil = IsDate (pos civil.0.year) (pos civil.0.month) (pos civil.0.day)
    × IsTime (pos civil.1.hour) (pos civil.1.minute) (pos civil.1.second) (pos civil.1.nanos)

-- jiff's civil time has these parts
abbrev pub HasParts : Day × TimeOfDay → DateTime → Type 0
HasParts civil time = IsYmd (pos civil.0.year) (pos civil.0.month) (pos civil.0.day) time.date
    × IsHms (pos civil.1.hour) (pos civil.1.minute) (pos civil.1.second) (pos civil.1.nanos)
    time.time

-- the instant of these parts in a zone
abbrev pub IsInstant : TimeZone → ℤ → Day × TimeOfDay → Type 0
IsInstant zone instant civil =
    (time : DateTime) × HasParts civil time × (instant_in zone time ≡ Some instant)

-- no such civil time, or its instant has more than 64 bits
abbrev pub HasNoInstant : TimeZone → Day × TimeOfDay → Type 0
HasNoInstant zone civil =
    (IsCivil civil → ⊥) ⊎ ((time : DateTime) × HasParts civil time × (instant_in zone time ≡ None))

-- the text names the instant, in nanoseconds since the epoch: in seconds, or by a civil time in the zone
abbrev pub Names : TimeZone → List ℕ → ℤ → Type 0
Names zone text instant =
    (seconds_in text ≡ Some instant) ⊎ IsSomeAnd (civil_in text) (IsInstant zone instant)

-- the text names no instant
abbrev pub NamesNone : TimeZone → List ℕ → Type 0
NamesNone zone text = (seconds_in text ≡ None) × IfSome (civil_in text) (HasNoInstant zone)
