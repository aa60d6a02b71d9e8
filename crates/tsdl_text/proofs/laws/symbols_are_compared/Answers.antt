use Rattle.tsdl_text.proofs.SameSymbols.{symbols_are_compared}
use Rattle.tsdl_text.proofs.laws.symbols_are_compared.Goals as goal

pub returns : goal.returns
returns c = symbols_are_compared
