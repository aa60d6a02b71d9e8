-- How far a merge has come.
use Rattle.std.specs.Prelude.{◌≡◌, ℕ, Bool, true, false, List, map, Option, Some, None}
use Rattle.ctf_packet.specs.declared.fault.StreamFault.{StreamFault}
use Rattle.ctf_stream.specs.Reader as reader
use Rattle.ctf_stream.specs.Reader.{Reader}
use Rattle.ctf_merge.specs.Merged.{first_of, broken}
use Rattle.ctf_merge.specs.Merges.{EachFetched}
use Rattle.ctf_merge.specs.Turns.{Turn, LinedUp}
use Rattle.ctf_merge.specs.declared.merge.Stage.{Stage}
use Rattle.ctf_merge.specs.declared.merge.Stage.TheVariants as stages

abbrev pub is_over : Stage → Bool
is_over stages.Going = false
is_over (stages.Broken number fault) = false
is_over stages.Over = true

-- no fault comes next
abbrev pub going : Stage
going = stages.Going

-- the stage where a stream has this fault next, or none
abbrev pub stage_of : ℕ → Option StreamFault → Stage
stage_of number (Some fault) = stages.Broken number fault
stage_of number None = stages.Going

-- the streams are lined up; a fault comes next; or it was gone past
abbrev pub Stands : Stage → List reader.Peeked → List (Option Turn) → Type 0
Stands stages.Going heads turns = LinedUp heads turns
Stands (stages.Broken number fault) heads turns = first_of heads ≡ broken number fault
Stands stages.Over heads turns = Unit {0}

pub record IsStanding (readers : List Reader) (turns : List (Option Turn)) (stage : Stage)
    : Type 0 where
  pub fetched : EachFetched readers
  pub stands : Stands stage (map (λ r. r.ahead) readers) turns
