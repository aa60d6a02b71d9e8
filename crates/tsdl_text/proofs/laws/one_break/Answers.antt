use Rattle.tsdl_text.proofs.PacketLaws.{one_break}
use Rattle.tsdl_text.proofs.laws.one_break.Goals as goal

pub returns : goal.returns
returns c = one_break
