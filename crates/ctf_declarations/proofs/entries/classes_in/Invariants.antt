use Rattle.std.proofs.Common.{◌≡◌, map, drop}
use Rattle.ctf_meaning.specs.Reading.{entry_of}
use Rattle.ctf_declarations.specs.Views.{visible}
use Rattle.ctf_declarations.specs.DeclaredSoFar.{held, from_held, classes_told}
use Rattle.ctf_declarations.proofs.entries.classes_in.Given as goal

abbrev pub invariant-loop-entry : goal.invariant-loop-entry
invariant-loop-entry l = from_held (visible l.outer) (held l.names l.classes.items) (map entry_of (drop l.entry-index l.entries)) ≡ classes_told (visible l.outer) (map entry_of l.entries)
