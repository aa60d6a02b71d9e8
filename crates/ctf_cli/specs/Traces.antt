-- The traces that folders hold, and the first path that can't be read (own).
use Rattle.std.specs.Prelude.{◌≡◌, ◌==◌, ℕ, cond, List, [], ◌∷◌, length, take, codes, slice_get, Option, Some, None, Result, Ok, Err}
use Rattle.std.specs.Cmp.Lexicographic.{slice_cmp}
use Rattle.std.specs.List.{AllZip, filter}
use Rattle.std.specs.List.Sorted.{IsPermutation, IsSorted}
use Rattle.std.specs.Ordering.{nat_cmp}
use Rattle.std.specs.Path.{path_join}
use Rattle.ctf_options.specs.Names.{is_stream}
use Rattle.ctf_faults.specs.Lines.{path_line}
use Rattle.ctf_faults.specs.Outcomes.{outcome_text}
use Rattle.ctf_faults.specs.declared.outcome.Outcome.TheVariants as outcomes
use Rattle.ctf_run.specs.Traces.{Stream, Trace}
use Rattle.ctf_session.specs.Inputs.{Given}
use Rattle.ctf_cli.specs.Files.{Files, Found, nothing, closed, stream}
use Rattle.ctf_cli.specs.declared.folders.FolderFault.{FolderFault}
use Rattle.ctf_cli.specs.declared.folders.FolderFault.TheVariants as faults
use Rattle.ctf_cli.specs.declared.opening.OpeningFault.{OpeningFault}
use Rattle.ctf_cli.specs.declared.opening.OpeningFault.TheVariants.{Unreadable, NoMemory}

-- ---- what a folder holds

-- the names in a folder; no folder has an empty path
abbrev pub names_in : Files → List ℕ → Option (List (List ℕ))
names_in files dir = cond (length dir == 0) None (files.names dir)

-- the names of streams among the names in a folder: without `metadata` and those that begin with a dot, in the order of
-- their bytes
pub record AreStreamNames (listed names : List (List ℕ)) : Type 0 where
  pub kept : IsPermutation (filter is_stream listed) names
  pub order : IsSorted (slice_cmp nat_cmp) names

abbrev pub metadata_path : List ℕ → List ℕ
metadata_path dir = path_join dir (codes "metadata")

-- the length of the longest metadata that is read: one byte more than metadata may have (64 MiB)
abbrev pub METADATA_READ : ℕ
METADATA_READ = 67108865

-- the stream of this name, if the file is one
abbrev pub stream_if : List ℕ → Option Given → List Stream
stream_if name None = []
stream_if name (Some given) = record { name = name; given = given } ∷ []

-- what is at the path of a name, and then the streams after it; or the first path that can't be opened
abbrev pub stream_then : List ℕ → List ℕ → Found → Result (List Stream) (List ℕ)
    → Result (List Stream) (List ℕ)
stream_then path name closed rest = Err path
stream_then path name nothing rest = rest
stream_then path name (stream given) (Ok streams) =
    Ok (record { name = name; given = given } ∷ streams)
stream_then path name (stream given) (Err later) = Err later

-- the streams among the files of these names in a folder, in their order; or the first path that can't be opened
abbrev pub streams_in : Files → List ℕ → List (List ℕ) → Result (List Stream) (List ℕ)
streams_in files dir [] = Ok []
streams_in files dir (name ∷ names) =
    stream_then (path_join dir name) name (files.found (path_join dir name))
    (streams_in files dir names)

-- ---- a trace

-- a folder holds this trace: it is called by the folder's path as given
pub record IsTrace (files : Files) (dir : List ℕ) (trace : Trace) : Type 0 where
  pub listed : List (List ℕ)
  pub names : List (List ℕ)
  pub metadata : List ℕ
  pub name_is : trace.name ≡ dir
  pub listed_are : names_in files dir ≡ Some listed
  pub names_are : AreStreamNames listed names
  pub metadata_is : files.bytes (metadata_path dir) ≡ Some metadata
  pub read_is : trace.metadata ≡ take METADATA_READ metadata
  pub streams_are : streams_in files dir names ≡ Ok trace.streams

-- the first path of a folder that can't be read: the folder, then its metadata, then its streams in their order
pub data IsBlocked (files : Files) (dir : List ℕ) : List ℕ → Type 0 where
  at_folder : names_in files dir ≡ None → IsBlocked files dir dir
  at_metadata : (listed : List (List ℕ)) → names_in files dir ≡ Some listed
      → files.bytes (metadata_path dir) ≡ None → IsBlocked files dir (metadata_path dir)
  at_stream : (listed names : List (List ℕ)) (bytes path : List ℕ)
      → names_in files dir ≡ Some listed → AreStreamNames listed names
      → files.bytes (metadata_path dir) ≡ Some bytes
      → streams_in files dir names ≡ Err path → IsBlocked files dir path

-- ---- several traces

-- each folder holds a trace
abbrev pub AreTraces : Files → List (List ℕ) → List Trace → Type 0
AreTraces files dirs traces = AllZip (IsTrace files) dirs traces

-- the first path that can't be read, folder by folder
pub record AreBlocked (files : Files) (dirs : List (List ℕ)) (path : List ℕ) : Type 0 where
  pub number : ℕ
  pub dir : List ℕ
  pub at : slice_get dirs number ≡ Some dir
  pub before : List Trace
  pub are_before : AreTraces files (take number dirs) before
  pub blocked : IsBlocked files dir path

-- ---- why traces were not opened

-- the line of a path that is blocked so, or out of memory
abbrev pub IsStop : (List ℕ → Type 0) → OpeningFault → Type 0
IsStop blocked (Unreadable line) = (path : List ℕ) × blocked path × (line.items ≡ path_line path)
IsStop blocked NoMemory = Unit {0}

-- the stop at a path after this fault
abbrev pub IsStopAt : List ℕ → FolderFault → OpeningFault → Type 0
IsStopAt path faults.Unreadable stop = IsStop (λ other. other ≡ path) stop
IsStopAt path faults.NoMemory stop = stop ≡ NoMemory

-- the line that is printed
abbrev pub stop_line : OpeningFault → List ℕ
stop_line (Unreadable line) = line.items
stop_line NoMemory = outcome_text outcomes.NoMemory
