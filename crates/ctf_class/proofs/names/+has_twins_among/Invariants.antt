use Rattle.std.proofs.Common.{length}
use Rattle.ctf_class.proofs.names.+has_twins_among.Given as goal

abbrev pub decreases-has_twins_among : goal.decreases-has_twins_among
decreases-has_twins_among l = length l.names.now
