-- What is read of headers by their plan.
use Rattle.std.specs.Prelude.{◌≡◌, ℕ, ◌+◌, List, [], ◌∷◌, Option, Some, None}
use Rattle.ctf_bits.specs.Number.{number}
use Rattle.ctf_class.specs.Integers.{bits_of}
use Rattle.ctf_class.specs.declared.header_plan.HeaderIntegers.{HeaderIntegers}
use Rattle.ctf_class.specs.declared.header_plan.HeaderNumber.{HeaderNumber}
use Rattle.ctf_clock.specs.Clock.{Line}
use Rattle.ctf_clock.specs.declared.moment.Moment.{Moment}
use Rattle.ctf_record_text.specs.Headers.{set_by}
use Rattle.ctf_record_text.specs.declared.planned_header.HeaderBegin.{HeaderBegin}
use Rattle.ctf_record_text.specs.declared.planned_header.HeaderRead.{HeaderRead}

-- the number of an integer in a header that begins at a bit of some bytes
abbrev pub number_at : List ℕ → ℕ → HeaderNumber → ℕ
number_at bytes begin n = number n.integer.order bytes (begin + n.distance) (bits_of n.integer)

-- the number of the event class: that of an integer, if there is one, else that of the tag
abbrev pub id_after : Option HeaderNumber → List ℕ → ℕ → Option ℕ → Option ℕ
id_after None bytes begin tag = tag
id_after (Some n) bytes begin tag = Some (number_at bytes begin n)

-- the clock after an integer that sets it, if there is one
abbrev pub clock_after : Option Line → Option HeaderNumber → List ℕ → ℕ → Moment → Option Moment
clock_after line None bytes begin clock = Some clock
clock_after line (Some n) bytes begin clock =
    set_by line clock ((n.integer.size, number_at bytes begin n) ∷ [])

-- the integers of a header were read
pub record ReadsIntegers (line : Option Line) (are : HeaderIntegers) (bytes : List ℕ)
    (from : HeaderBegin) (to : HeaderRead) : Type 0 where
  pub id : to.id ≡ id_after are.id bytes from.place from.tag
  pub clock : clock_after line are.stamp bytes from.place from.clock ≡ Some to.clock
  pub place : to.place ≡ from.place + are.span
  pub values : to.values ≡ are.values
