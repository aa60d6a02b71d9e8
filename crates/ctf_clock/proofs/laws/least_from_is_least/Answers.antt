use Rattle.ctf_clock.proofs.Upward.{is_least}
use Rattle.ctf_clock.proofs.laws.least_from_is_least.Goals as goal

pub returns : goal.returns
returns c = is_least
