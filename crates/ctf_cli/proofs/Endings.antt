-- How the program ends where traces were not opened.
use Rattle.std.proofs.Common.{ℕ, List, subst}
use Rattle.ctf_options.specs.declared.options.Options.{Options}
use Rattle.ctf_cli.specs.Ends.{Sides, Refuses, EndsFor, blocked, starved}
use Rattle.ctf_cli.specs.Files.{Files}
use Rattle.ctf_cli.specs.Traces.{AreBlocked, IsStop, stop_line}
use Rattle.ctf_cli.specs.declared.opening.OpeningFault.{OpeningFault}
use Rattle.ctf_cli.specs.declared.opening.OpeningFault.TheVariants.{Unreadable, NoMemory}

pub stopped : (options : Options) (files : Files) (old new : Sides) (status : ℕ) (stop : OpeningFault) → IsStop (AreBlocked files options.dirs) stop → Refuses (stop_line stop) old new status
    → EndsFor options files old new status
stopped options files old new status (Unreadable line) is refuses = blocked is.0 is.1 (subst (λ (text : List ℕ). Refuses text old new status) is.2 refuses)
stopped options files old new status NoMemory is refuses = starved refuses
