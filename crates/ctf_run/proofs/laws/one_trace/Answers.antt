use Rattle.ctf_run.proofs.Answering as laws
use Rattle.ctf_run.proofs.laws.one_trace.Goals as goal

pub returns : goal.returns
returns c = laws.one_trace
