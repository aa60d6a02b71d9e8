use Rattle.ctf_merge.proofs.Rising.{merged_rises}
use Rattle.ctf_merge.proofs.laws.merge_rises.Goals as goal

pub returns : goal.returns
returns c = merged_rises
