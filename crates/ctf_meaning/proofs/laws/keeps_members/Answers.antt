use Rattle.ctf_meaning.proofs.Members as members
use Rattle.ctf_meaning.proofs.laws.keeps_members.Goals as goal

pub returns : goal.returns
returns c = members.keeps_members
