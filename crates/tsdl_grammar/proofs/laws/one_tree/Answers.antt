use Rattle.tsdl_grammar.proofs.LawsComplete as laws
use Rattle.tsdl_grammar.proofs.laws.one_tree.Goals as goal

pub returns : goal.returns
returns c = laws.one_tree
