use Rattle.ctf_meaning.proofs.Named as named
use Rattle.ctf_meaning.proofs.laws.faults_are_named.Goals as goal

pub returns : goal.returns
returns c = named.faults_are_named
