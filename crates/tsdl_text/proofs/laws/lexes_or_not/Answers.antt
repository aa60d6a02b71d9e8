use Rattle.tsdl_text.proofs.TextLaws.{lexes_or_not}
use Rattle.tsdl_text.proofs.laws.lexes_or_not.Goals as goal

pub returns : goal.returns
returns c = lexes_or_not
