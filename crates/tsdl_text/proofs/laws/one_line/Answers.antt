use Rattle.tsdl_text.proofs.TextLaws.{one_line}
use Rattle.tsdl_text.proofs.laws.one_line.Goals as goal

pub returns : goal.returns
returns c = one_line
