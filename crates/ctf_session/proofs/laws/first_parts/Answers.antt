use Rattle.ctf_session.proofs.Stopping.{first_parts}
use Rattle.ctf_session.proofs.laws.first_parts.Goals as goal

pub returns : goal.returns
returns c = first_parts
