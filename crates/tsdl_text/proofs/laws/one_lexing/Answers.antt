use Rattle.tsdl_text.proofs.TextLaws.{one_lexing}
use Rattle.tsdl_text.proofs.laws.one_lexing.Goals as goal

pub returns : goal.returns
returns c = one_lexing
