use Rattle.ctf_merge.proofs.Rising.{none_before}
use Rattle.ctf_merge.proofs.laws.none_is_before.Goals as goal

pub returns : goal.returns
returns c = none_before
