use Rattle.ctf_packet.proofs.Going.{goes_on, ends}
use Rattle.ctf_packet.proofs.laws.records_go_on.Goals as goal

pub returns : goal.returns
returns c = record { goes_on = λ packet bytes follows clock place h. goes_on packet bytes follows clock place h; ends = λ packet bytes follows clock place h. ends packet bytes follows clock place h }
