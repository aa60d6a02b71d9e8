use Rattle.stream_laws.proofs.Passing.{run_comes}
use Rattle.stream_laws.proofs.laws.later_bytes_change_nothing.Goals as goal

pub returns : goal.returns
returns c = λ trace ending other_ending bytes more first rest x e premise. run_comes trace ending other_ending bytes more first rest x e premise
