-- Which times are before others, and lists of items whose times never fall.
use Rattle.std.specs.Prelude.{◌≡◌, ℤ, Bool, true, false, List, [], ◌∷◌, Option, Some, None, option_map}
use Rattle.std.specs.Int.Signed.{lt_z}
use Rattle.std.specs.Option.{is_some}
use Rattle.ctf_clock.specs.declared.moment.Moment.{Moment}
use Rattle.ctf_packet.specs.Items.{Item}
use Rattle.ctf_packet.specs.ItemTimes.{time_of}

-- the time that a clock gives, in nanoseconds since the epoch
abbrev pub time_at : Option Moment → Option ℤ
time_at clock = option_map (λ (moment : Moment). moment.time) clock

-- whether a time is before another: none is before each, and not before itself (own)
abbrev pub is_before : Option ℤ → Option ℤ → Bool
is_before None None = false
is_before None (Some time) = true
is_before (Some time) None = false
is_before (Some time) (Some other) = lt_z time other

abbrev pub NotBefore : Option ℤ → Option ℤ → Type 0
NotBefore low time = is_before time low ≡ false

-- no time is before the one that precedes it, and the first is not before `low`
abbrev pub Rises : {C : Type 0} → Option ℤ → List (Item C) → Type 0
Rises low [] = Unit {0}
Rises low (x ∷ xs) = NotBefore low (time_of x) × Rises (time_of x) xs

-- whether an item has a time is the same at each
abbrev pub AreTimed : {C : Type 0} → Bool → List (Item C) → Type 0
AreTimed timed [] = Unit {0}
AreTimed timed (x ∷ xs) = (is_some (time_of x) ≡ timed) × AreTimed timed xs
