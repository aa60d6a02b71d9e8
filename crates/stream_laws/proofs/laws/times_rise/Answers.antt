use Rattle.stream_laws.proofs.Rising.{run_rises}
use Rattle.stream_laws.proofs.laws.times_rise.Goals as goal

pub returns : goal.returns
returns c = λ trace ending bytes. run_rises trace ending bytes
