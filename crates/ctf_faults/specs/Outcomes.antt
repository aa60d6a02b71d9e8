-- How a run ends (own).
use Rattle.std.specs.Prelude.{ℕ, List, [], codes}
use Rattle.ctf_faults.specs.declared.outcome.Outcome.{Outcome}
use Rattle.ctf_faults.specs.declared.outcome.Outcome.TheVariants.{Done, Fault, WriteFailed, NoMemory}

-- the line that a program prints after a run that was cut
abbrev pub outcome_text : Outcome → List ℕ
outcome_text Done = []
outcome_text (Fault fault) = []
outcome_text WriteFailed = codes "ERROR: O1: write failed\n"
outcome_text NoMemory = codes "ERROR: O2: no memory\n"

abbrev pub status_of : Outcome → ℕ
status_of Done = 0
status_of (Fault fault) = 1
status_of WriteFailed = 1
status_of NoMemory = 1
