-- What a calendar and a clock show, from nanoseconds and days since the start of 1970.
use Rattle.std.specs.Prelude.{ℕ, zero, suc, ◌+◌, ◌-◌, ◌/◌, ◌%◌, ℤ, pos, ◌-ℤ◌, unsigned_abs, nat_le, if◌then◌else◌, List, ◌++◌, codes}
use Rattle.std.specs.Int.{int_div_euclid, int_rem_euclid}
use Rattle.jiff_core.specs.Calendar.{days_from_civil, days_of_months}
use Rattle.jiff_core.specs.declared.civil.date.Date.{Date}
use Rattle.jiff_core.specs.declared.civil.time.Time.{Time}
use Rattle.jiff_tz.specs.Year.{year_of_day}
use Rattle.ctf_timestamp.specs.Digits.{last_digits}

-- the whole seconds, rounded down
abbrev pub second_of : ℤ → ℤ
second_of nanos = int_div_euclid nanos (pos 1000000000)

-- the nanoseconds after them
abbrev pub within_second : ℤ → ℕ
within_second nanos = unsigned_abs (int_rem_euclid nanos (pos 1000000000))

-- `hh:mm:ss` (own)
unfoldable pub clock_text : ℕ → ℕ → ℕ → List ℕ
clock_text hour minute second =
    last_digits 2 hour ++ codes ":" ++ last_digits 2 minute ++ codes ":" ++ last_digits 2 second

-- `YYYY-MM-DD` (own); the years of times of 64 bits are 1677 to 2262
unfoldable pub date_text : ℕ → ℕ → ℕ → List ℕ
date_text year month day =
    last_digits 4 year ++ codes "-" ++ last_digits 2 month ++ codes "-" ++ last_digits 2 day

-- the time of day so many seconds after midnight
abbrev pub time_of_day : ℕ → List ℕ
time_of_day s = clock_text (s / 3600) (s / 60 % 60) (s % 60)

-- the most months of a year, at most n, that lie before a day of it, days counted from 0
unfoldable pub months_before : ℤ → ℕ → ℕ → ℕ
months_before year zero day = 0
months_before year (suc n) day =
    if nat_le (days_of_months year (suc n)) day then suc n else months_before year n day

-- a day of a year, counted from 0
abbrev pub day_in_year : ℤ → ℕ → List ℕ
day_in_year year day =
    let months = months_before year 11 day in
    date_text (unsigned_abs year) (months + 1) (day - days_of_months year months + 1)

-- a day, counted from the start of 1970
unfoldable pub day_text : ℤ → List ℕ
day_text day =
    let year = year_of_day day in day_in_year year (unsigned_abs (day -ℤ days_from_civil year 1 1))

-- the time of day at a second, counted from the start of 1970
unfoldable pub time_at : ℤ → List ℕ
time_at second = time_of_day (unsigned_abs (int_rem_euclid second (pos 86400)))

-- the date and the time of day at a second, counted from the start of 1970
unfoldable pub date_at : ℤ → List ℕ
date_at second = day_text (int_div_euclid second (pos 86400)) ++ codes " " ++ time_at second

-- the time of day of a civil time of jiff, by its parts
abbrev pub shown_time : Time → List ℕ
shown_time t = clock_text t.hour t.minute t.second

abbrev pub shown_date : Date → List ℕ
shown_date d = date_text (unsigned_abs d.year) d.month d.day
