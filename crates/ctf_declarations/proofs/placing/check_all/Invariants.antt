use Rattle.std.proofs.Common.{◌≡◌, map, drop}
use Rattle.std.specs.Prelude.{flat_map}
use Rattle.ctf_meaning.specs.Scopes.{scope_faults}
use Rattle.ctf_declarations.specs.DeclaredSoFar.{placed_seen}
use Rattle.ctf_declarations.proofs.placing.check_all.Given as goal

abbrev pub invariant-loop-class : goal.invariant-loop-class
invariant-loop-class l = flat_map (λ p. scope_faults p.1) (map placed_seen (drop l.class-index l.row)) ≡ flat_map (λ p. scope_faults p.1) (map placed_seen l.row)
