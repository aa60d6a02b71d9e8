use Rattle.std.proofs.Common.{◌≡◌, map, drop, flat_map}
use Rattle.ctf_meaning.specs.Settings.{repeated}
use Rattle.ctf_attributes.proofs.lookup.each_once.Given as goal

-- the faults of the names that are left
abbrev pub invariant-loop-name : goal.invariant-loop-name
invariant-loop-name l =
    flat_map (repeated l.settings) (map (λ name. name.now) l.names) ≡ flat_map (repeated l.settings) (map (λ name. name.now) (drop l.name-index l.names))
