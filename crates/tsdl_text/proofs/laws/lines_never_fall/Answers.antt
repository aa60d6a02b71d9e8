use Rattle.tsdl_text.proofs.TextLaws.{lines_never_fall}
use Rattle.tsdl_text.proofs.laws.lines_never_fall.Goals as goal

pub returns : goal.returns
returns c = lines_never_fall
