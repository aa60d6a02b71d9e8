use Rattle.std.proofs.Common.{◌≡◌, map, drop}
use Rattle.ctf_meaning_steps.specs.Laws.{class_among}
use Rattle.ctf_declarations.specs.DeclaredSoFar.{placed_seen}
use Rattle.ctf_types.proofs.rows.class_of.Given as goal

abbrev pub invariant-loop-placed : goal.invariant-loop-placed
invariant-loop-placed l = class_among l.scope (map placed_seen l.row) ≡ class_among l.scope (map placed_seen (drop l.placed-index l.row))
