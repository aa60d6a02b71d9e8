use Rattle.ctf_run.proofs.Answering as laws
use Rattle.ctf_run.proofs.laws.has_answer.Goals as goal

pub returns : goal.returns
returns c = laws.has_answer
