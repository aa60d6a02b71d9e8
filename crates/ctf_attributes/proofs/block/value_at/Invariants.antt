use Rattle.std.proofs.Common.{◌≡◌, map, drop}
use Rattle.ctf_meaning.specs.Reading.{entry_of}
use Rattle.ctf_meaning.specs.Blocks.{value_at}
use Rattle.ctf_attributes.proofs.block.value_at.Given as goal

-- the value is that among the entries that are left
abbrev pub invariant-loop-entry : goal.invariant-loop-entry
invariant-loop-entry l = value_at (map entry_of l.entries) l.name ≡ value_at (map entry_of (drop l.entry-index l.entries)) l.name
