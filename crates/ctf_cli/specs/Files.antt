-- What folders hold, and what reading them gives (own).
use Rattle.std.specs.Prelude.{ℕ, List, Option, Some, None}
pub use Rattle.ctf_session.specs.Inputs.{given_by}
use Rattle.ctf_session.specs.Inputs.{Given}
use Rattle.ctf_cli.specs.declared.folders.FolderFault.{FolderFault}
use Rattle.ctf_cli.specs.declared.folders.FolderFault.TheVariants.{Unreadable, NoMemory}

-- what is at a path, for one who looks for a stream: no file that is not empty, or one that can't be opened, or a
-- stream
pub data Found : Type 0 where
  nothing : Found
  closed : Found
  stream : Given → Found

-- what folders hold, by path
pub record Files : Type 0 where
  -- the names of the entries of a folder; none where it can't be listed
  pub names : List ℕ → Option (List (List ℕ))
  -- the bytes of a file; none where it can't be opened or read
  pub bytes : List ℕ → Option (List ℕ)
  pub found : List ℕ → Found

-- a fault is where something can't be read, and out of memory anywhere
abbrev pub IsFault : Type 0 → FolderFault → Type 0
IsFault blocked Unreadable = blocked
IsFault blocked NoMemory = Unit {0}

-- an open stream, or none
abbrev pub found_of : {S : Type 0} → (S → Given) → Option S → Found
found_of given None = nothing
found_of given (Some s) = stream (given s)

-- what the files of a system are said to hold: nothing is said of it
abbrev pub untold : Files
untold = record { names = λ dir. None; bytes = λ path. None; found = λ path. nothing }
