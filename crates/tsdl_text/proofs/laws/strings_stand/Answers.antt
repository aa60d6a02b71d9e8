use Rattle.tsdl_text.proofs.StringLaws.{strings_stand}
use Rattle.tsdl_text.proofs.laws.strings_stand.Goals as goal

pub returns : goal.returns
returns c = strings_stand
