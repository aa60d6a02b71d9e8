use Rattle.tsdl_grammar.proofs.LawsComplete as laws
use Rattle.tsdl_grammar.proofs.laws.tree_or_not.Goals as goal

pub returns : goal.returns
returns c = laws.tree_or_not
