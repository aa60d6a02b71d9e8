use Rattle.stream_laws.proofs.Passing.{run_holds}
use Rattle.stream_laws.proofs.laws.items_are_held.Goals as goal

pub returns : goal.returns
returns c = λ trace ending bytes first rest x e. run_holds trace ending bytes first rest x e
