use Rattle.stream_laws.proofs.Timed.{run_timed}
use Rattle.stream_laws.proofs.laws.all_timed_or_none.Goals as goal

pub returns : goal.returns
returns c = λ trace ending bytes. run_timed trace ending bytes
