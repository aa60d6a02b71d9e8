use Rattle.ctf_session.proofs.Stopping.{one_sink_each, whole_in_one}
use Rattle.ctf_session.proofs.laws.whole_in_one.Goals as goal

pub returns : goal.returns
returns c = record { each = one_sink_each; stopped = whole_in_one }
