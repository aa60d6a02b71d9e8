use Rattle.tsdl_parse.proofs.Loops.{front_nil}
use Rattle.tsdl_parse.proofs.part.many.Goals as goal

pub returns-clause-reads : goal.returns-clause-reads
returns-clause-reads g c = rw front_nil at (rw c.in_ok-room_for.ensures at c.parts_after.ensures.reads)
