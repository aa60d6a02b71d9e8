use Rattle.ctf_meaning.proofs.Seen as seen
use Rattle.ctf_meaning.proofs.laws.names_read_earlier.Goals as goal

pub returns : goal.returns
returns c = seen.reads_earlier
