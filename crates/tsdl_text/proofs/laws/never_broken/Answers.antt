use Rattle.tsdl_text.proofs.PacketLaws.{never_broken}
use Rattle.tsdl_text.proofs.laws.never_broken.Goals as goal

pub returns : goal.returns
returns c = never_broken
