use Rattle.tsdl_text.proofs.PacketLaws.{one_text}
use Rattle.tsdl_text.proofs.laws.one_text.Goals as goal

pub returns : goal.returns
returns c = one_text
