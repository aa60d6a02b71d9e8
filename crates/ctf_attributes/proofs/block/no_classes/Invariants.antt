use Rattle.std.proofs.Common.{◌≡◌, map, drop, flat_map}
use Rattle.std.specs.List.{list_any}
use Rattle.ctf_meaning.specs.declared.fault.ResolveFault.TheVariants.{Attribute}
use Rattle.ctf_meaning.specs.Reading.{entry_of}
use Rattle.ctf_meaning.specs.Settings.{when}
use Rattle.ctf_meaning.specs.Blocks.{is_class_of}
use Rattle.ctf_attributes.specs.EntryNames.{words_of}
use Rattle.ctf_attributes.proofs.block.no_classes.Given as goal

-- the faults of the names that are left
abbrev pub invariant-loop-name : goal.invariant-loop-name
invariant-loop-name l =
    flat_map (λ name. when (list_any (is_class_of name) (map entry_of l.entries)) Attribute) (map words_of l.names) ≡ flat_map (λ name. when (list_any (is_class_of name) (map entry_of l.entries)) Attribute) (map words_of (drop l.name-index l.names))
