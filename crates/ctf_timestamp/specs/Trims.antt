-- What is left of a list of items between two times (own).
use Rattle.std.specs.Prelude.{ℤ, Bool, false, cond, int_lt, Option, Some, None}
use Rattle.ctf_timestamp.specs.declared.trim.Trim.{Trim}
use Rattle.ctf_timestamp.specs.declared.trim.Verdict.{Verdict}
use Rattle.ctf_timestamp.specs.declared.trim.Verdict.TheVariants.{Before, Within, After}

-- a time above the end
abbrev pub is_past : Option ℤ → ℤ → Bool
is_past None time = false
is_past (Some end) time = int_lt end time

-- a time below the beginning
abbrev pub is_early : Option ℤ → ℤ → Bool
is_early None time = false
is_early (Some begin) time = int_lt time begin

-- what has no time stays; a time above the end is after it, also where it is below the beginning
abbrev pub verdict_of : Trim → Option ℤ → Verdict
verdict_of trim None = Within
verdict_of trim (Some time) =
    cond (is_past trim.end time) After (cond (is_early trim.begin time) Before Within)
