use Rattle.ctf_meaning.proofs.Members as members
use Rattle.ctf_meaning.proofs.laws.depth_bounded.Goals as goal

pub returns : goal.returns
returns c = members.depth_bounded
