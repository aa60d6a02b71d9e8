use Rattle.std.proofs.Common.{length}
use Rattle.tsdl_parse.proofs.Loops.{Going}
use Rattle.tsdl_parse.proofs.part.parts_after.Given as goal

abbrev pub decreases-turns : goal.decreases-turns
decreases-turns g l = length l.rest

abbrev pub invariant-turns : goal.invariant-turns
invariant-turns g l = Going (g.P.Part.comes l.part) (g.P.Part.part_at l.part) l.fn.found.items l.fn.tokens l.found.items l.rest
