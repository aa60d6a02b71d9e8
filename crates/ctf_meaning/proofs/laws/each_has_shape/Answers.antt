use Rattle.ctf_meaning.proofs.Members as members
use Rattle.ctf_meaning.proofs.laws.each_has_shape.Goals as goal

pub returns : goal.returns
returns c = members.each_has_shape
