use Rattle.tsdl_grammar.proofs.LawsComplete as laws
use Rattle.tsdl_grammar.proofs.laws.whole_run.Goals as goal

pub returns : goal.returns
returns c = laws.whole_run
