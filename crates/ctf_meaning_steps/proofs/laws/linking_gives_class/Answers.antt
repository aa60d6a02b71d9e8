use Rattle.ctf_meaning_steps.proofs.Linked as linked
use Rattle.ctf_meaning_steps.proofs.laws.linking_gives_class.Goals as goal

pub returns : goal.returns
returns c = linked.linking_gives_class
