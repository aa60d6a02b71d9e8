use Rattle.std.proofs.Common.{◌≡◌, map, take}
use Rattle.std.specs.Prelude.{filter_map}
use Rattle.ctf_meaning_steps.specs.Blocks.{placed_in}
use Rattle.ctf_declarations.specs.DeclaredSoFar.{placed_seen, named_class}
use Rattle.ctf_declarations.proofs.placing.placed_classes.Given as goal

abbrev pub invariant-loop-scope : goal.invariant-loop-scope
invariant-loop-scope l = map placed_seen l.row ≡ filter_map (placed_in (map named_class l.classes)) (take l.scope-index l.scope-items)
