use Rattle.ctf_meaning.proofs.Earlier as earlier
use Rattle.ctf_meaning.proofs.laws.classes_read_earlier.Goals as goal

pub returns : goal.returns
returns c = λ text before after p form e. earlier.shape_reads_earlier text before after p form e
