use Rattle.ctf_timestamp.proofs.Folds.{folds, later_back}
use Rattle.ctf_timestamp.proofs.laws.folds_give_the_earlier.Goals as goal

pub returns : goal.returns
returns c = λ zone kind civil before after e. later_back civil before after (folds zone kind civil before after e)
