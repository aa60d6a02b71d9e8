-- The lines of faults (own).
use Rattle.std.specs.Prelude.{ℕ, List, [], ◌++◌, Option, Some, None, codes}
use Rattle.ctf_class.specs.Escapes.{escaped}
use Rattle.ctf_packet.specs.declared.fault.StreamFault.{StreamFault}
use Rattle.ctf_faults.specs.declared.load.LoadFault.{LoadFault}
use Rattle.ctf_faults.specs.Table.{load_text, stream_text}

-- a name in its quotes
abbrev pub quoted : List ℕ → List ℕ
quoted name = codes "\"" ++ (escaped name ++ codes "\"")

-- the trace that a line speaks of, where there are several
abbrev pub of_trace : Option (List ℕ) → List ℕ
of_trace None = []
of_trace (Some name) = codes " in trace " ++ quoted name

abbrev pub error_line : List ℕ → List ℕ → List ℕ
error_line text place = codes "ERROR: " ++ (text ++ (place ++ codes "\n"))

-- the line of a fault of the metadata of a trace, which is named where there are several
abbrev pub metadata_line : LoadFault → Option (List ℕ) → List ℕ
metadata_line fault name = error_line (load_text fault) (of_trace name)

-- the line of a fault of the stream of this name
abbrev pub stream_line : StreamFault → List ℕ → List ℕ
stream_line fault name = error_line (stream_text fault) (codes " in stream " ++ quoted name)

-- the line of a path that cannot be read
abbrev pub path_line : List ℕ → List ℕ
path_line path = error_line (codes "I1: cannot read ") (escaped path)
