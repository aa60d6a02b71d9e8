use Rattle.std.proofs.Common.{◌≡◌, map, drop}
use Rattle.std.specs.List.{list_any}
use Rattle.ctf_meaning.specs.Reading.{entry_of}
use Rattle.ctf_meaning.specs.Blocks.{is_class_of}
use Rattle.ctf_attributes.specs.EntryNames.{words_of}
use Rattle.ctf_attributes.proofs.block.has_class.Given as goal

-- the entries that are left decide
abbrev pub invariant-loop-entry : goal.invariant-loop-entry
invariant-loop-entry l = list_any (is_class_of (words_of l.name)) (map entry_of l.entries) ≡ list_any (is_class_of (words_of l.name)) (map entry_of (drop l.entry-index l.entries))
