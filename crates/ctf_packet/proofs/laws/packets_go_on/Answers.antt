use Rattle.std.proofs.Common.{refl}
use Rattle.ctf_packet.proofs.Cutting.{goes_on}
use Rattle.ctf_packet.proofs.laws.packets_go_on.Goals as goal

pub returns : goal.returns
returns c = record { goes_on = λ trace ending reached at byte bytes. goes_on trace ending reached at byte bytes; ends = λ trace ending reached at. refl }
