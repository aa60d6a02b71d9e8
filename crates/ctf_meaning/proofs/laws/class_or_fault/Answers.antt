use Rattle.ctf_meaning.proofs.Classes as classes
use Rattle.ctf_meaning.proofs.laws.class_or_fault.Goals as goal

pub returns : goal.returns
returns c = classes.class_or_fault
