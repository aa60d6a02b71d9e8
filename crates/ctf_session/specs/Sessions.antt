-- What a session holds.
use Rattle.std.specs.Prelude.{Option, Some, None}
use Rattle.ctf_merge.specs.Merged.{Merged, ends}
use Rattle.ctf_faults.specs.declared.outcome.Outcome.{Outcome}

-- nothing is left once it has ended
abbrev pub left_by : Option Outcome → Merged → Merged
left_by None m = m
left_by (Some o) m = ends None
