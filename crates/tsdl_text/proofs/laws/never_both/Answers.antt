use Rattle.tsdl_text.proofs.TextLaws.{never_both}
use Rattle.tsdl_text.proofs.laws.never_both.Goals as goal

pub returns : goal.returns
returns c = never_both
