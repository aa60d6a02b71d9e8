-- The value of a clock, and the time that it gives.
use Rattle.std.specs.Prelude.{ℕ, ℤ, pos, negsuc, ◌+ℤ◌, ◌*ℤ◌, ◌^◌, Bool, nat_lt, List, [], ◌∷◌, Option, Some, None, option_and_then, if◌then◌else◌}
use Rattle.std.specs.Int.{int_div_euclid}
use Rattle.ctf_class.specs.declared.trace.Clock.{Clock}
use Rattle.ctf_clock.specs.declared.moment.Moment.{Moment}
use Rattle.ctf_clock.specs.declared.moment.Shift.{Shift}
use Rattle.ctf_clock.specs.Counting.{least_from}

-- how the cycles of a clock become nanoseconds since the epoch
pub record Line : Type 0 where
  -- nanoseconds: the seconds of the clock's offset, and the shift that the caller asks for
  pub start : ℤ
  -- cycles, besides
  pub offset : ℤ
  -- cycles a second
  pub frequency : ℕ

-- a clock (CTF 1.8.3, section 8), shifted (own)
abbrev pub line_of : Clock → Shift → Line
line_of clock shift =
    record {
      start = (clock.offset_seconds +ℤ shift.seconds) *ℤ pos 1000000000 +ℤ shift.nanos;
      offset = clock.offset;
      frequency = clock.frequency;
    }

-- the time at a value, in nanoseconds since the epoch, rounded down (CTF 1.8.3, section 8)
abbrev pub nanoseconds : Line → ℕ → ℤ
nanoseconds line value =
    line.start +ℤ int_div_euclid ((line.offset +ℤ pos value) *ℤ pos 1000000000) (pos line.frequency)

-- whether a number is one of 64 bits in two's complement
abbrev pub fits : ℤ → Bool
fits (pos n) = nat_lt n (2 ^ 63)
fits (negsuc n) = nat_lt n (2 ^ 63)

-- the time, where it is a number of 64 bits (own)
abbrev pub time_of : Line → ℕ → Option ℤ
time_of line value = let time = nanoseconds line value in if fits time then Some time else None

-- a value with its time, where there is one
abbrev pub with_time : ℕ → Option ℤ → Option Moment
with_time value None = None
with_time value (Some time) = Some (record { cycles = value; time = time })

-- the moment at a value: none where the value has more than 64 bits or its time does not fit (own)
abbrev pub moment_at : Line → ℕ → Option Moment
moment_at line value = if nat_lt value (2 ^ 64) then with_time value (time_of line value) else None

-- The moment at which an integer sets the clock: its value becomes the least number that is not below the old
-- one and has the integer's bits. An integer of 64 bits so sets it to itself, and is refused where it is below the
-- old value (CTF 1.8.3, section 8; the refusal is own).
abbrev pub advanced : Line → Moment → ℕ → ℕ → Option Moment
advanced line from n x = moment_at line (least_from n from.cycles x)

-- the moment at which integers set the clock, one after the other, each with its width
abbrev pub advanced_by : Line → Moment → List (ℕ × ℕ) → Option Moment
advanced_by line from [] = Some from
advanced_by line from (m ∷ ms) =
    option_and_then (λ next. advanced_by line next ms) (advanced line from m.0 m.1)
