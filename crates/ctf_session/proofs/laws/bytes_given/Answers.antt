use Rattle.ctf_session.proofs.Passing.{given}
use Rattle.ctf_session.proofs.laws.bytes_given.Goals as goal

pub returns : goal.returns
returns c = given
