use Rattle.ctf_format.proofs.RecordsLemmas.{runs_near}
use Rattle.ctf_format.proofs.branches.put_runs_before.Goals as goal

pub put_last_runs-requires-clause-near : goal.put_last_runs-requires-clause-near
put_last_runs-requires-clause-near c = runs_near c.requires.is.0 c.args.runs.now c.requires.is.1
