-- The times of a log's lines (own, after babeltrace2's sink.text.pretty).
use Rattle.std.specs.Prelude.{◌≡◌, ◌<◌, ℕ, suc, ℤ, pos, negsuc, ◌-ℤ◌, unsigned_abs, List, [], ◌++◌, codes, Option, Some, None, if◌then◌else◌}
use Rattle.jiff_tz.specs.declared.timezone.TimeZone.{TimeZone}
use Rattle.ctf_clock.specs.declared.moment.Moment.{Moment}
use Rattle.ctf_timestamp.specs.declared.style.ClockStyle.{ClockStyle}
use Rattle.ctf_timestamp.specs.declared.style.ClockStyle.TheVariants.{Time, Date, Seconds, Cycles}
use Rattle.ctf_timestamp.specs.declared.style.Style.{Style}
use Rattle.ctf_timestamp.specs.Civil.{second_of, within_second, time_at, date_at}
use Rattle.ctf_timestamp.specs.Digits.{last_digits, seconds_text}
use Rattle.ctf_timestamp.specs.Zones.{civil_at}

-- the seconds since the epoch, with `-` first where they are below 0
unfoldable pub signed_seconds : ℤ → List ℕ
signed_seconds (pos n) = seconds_text n
signed_seconds (negsuc n) = codes "-" ++ seconds_text (suc n)

-- a dot and the nine digits of the nanoseconds within a second
unfoldable pub fraction : ℤ → List ℕ
fraction nanos = codes "." ++ last_digits 9 (within_second nanos)

-- the stamp of a moment in a zone
abbrev pub stamp_by : ClockStyle → TimeZone → Moment → List ℕ
stamp_by Time zone moment =
    time_at (second_of (civil_at zone moment.time)) ++ fraction (civil_at zone moment.time)
stamp_by Date zone moment =
    date_at (second_of (civil_at zone moment.time)) ++ fraction (civil_at zone moment.time)
stamp_by Seconds zone moment = signed_seconds moment.time
stamp_by Cycles zone moment = last_digits 20 moment.cycles

-- the stamp of a moment
abbrev pub stamp : Style → Moment → List ℕ
stamp style moment = stamp_by style.clock style.zone moment

-- the time since the printed event before, where there is one; with `+` also where it is later
unfoldable pub delta_text : Option ℤ → ℤ → List ℕ
delta_text None time = codes "+?.?????????"
delta_text (Some before) time = codes "+" ++ seconds_text (unsigned_abs (time -ℤ before))

-- the delta with its brackets, where the style has one
unfoldable pub delta_part : Style → Option ℤ → ℤ → List ℕ
delta_part style last time =
    if style.delta then codes "(" ++ delta_text last time ++ codes ") " else []

-- the beginning of a line: nothing where it has no time
abbrev pub stamp_part : Style → Option Moment → Option ℤ → List ℕ
stamp_part style None last = []
stamp_part style (Some moment) last =
    codes "[" ++ stamp style moment ++ codes "] " ++ delta_part style last moment.time

-- what a civil style shows of a second before the dot
abbrev pub head_at : ClockStyle → ℤ → List ℕ
head_at Date second = date_at second
head_at Time second = time_at second
head_at Seconds second = time_at second
head_at Cycles second = time_at second

-- A text is what a civil style shows of each instant within a second before the dot, but for the second's last
-- nanosecond: the clock of a POSIX rule can change there, at the end of a year.
pub record IsHeadOf (style : Style) (second : ℤ) (text : List ℕ) : Type 0 where
  pub shows : (time : ℤ) → second_of time ≡ second → within_second time < 999999999
      → text ≡ head_at style.clock (second_of (civil_at style.zone time))
