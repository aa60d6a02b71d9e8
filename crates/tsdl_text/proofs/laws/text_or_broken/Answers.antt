use Rattle.tsdl_text.proofs.PacketLaws.{text_or_broken}
use Rattle.tsdl_text.proofs.laws.text_or_broken.Goals as goal

pub returns : goal.returns
returns c = text_or_broken
