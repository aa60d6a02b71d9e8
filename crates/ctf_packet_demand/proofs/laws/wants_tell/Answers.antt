use Rattle.ctf_packet_demand.proofs.Telling.{wants_tell}
use Rattle.ctf_packet_demand.proofs.laws.wants_tell.Goals as goal

pub returns : goal.returns
returns c = wants_tell
