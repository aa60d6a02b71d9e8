use Rattle.std.proofs.Common.{◌≡◌, ◌+◌, ◌-◌, ◌^◌, map, take}
use Rattle.std.specs.Prelude.{min, sum}
use Rattle.ctf_meaning.specs.Shapes.{nodes_of}
use Rattle.ctf_declarations.specs.DeclaredSoFar.{placed_seen}
use Rattle.ctf_declarations.proofs.so_far.count_all.Given as goal

abbrev pub invariant-loop-class : goal.invariant-loop-class
invariant-loop-class l = l.total ≡ min (l.nodes + sum (map (λ p. nodes_of p.1) (map placed_seen (take l.class-index l.row)))) (2 ^ 32 - 1)
