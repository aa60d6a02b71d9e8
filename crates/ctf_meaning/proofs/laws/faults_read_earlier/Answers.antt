use Rattle.ctf_meaning.proofs.Earlier as earlier
use Rattle.ctf_meaning.proofs.laws.faults_read_earlier.Goals as goal

pub returns : goal.returns
returns c = λ text before after p e. earlier.faults_read_earlier text before after p e
