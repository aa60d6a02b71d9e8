use Rattle.ctf_merge.proofs.Cutting.{merged_is_cut}
use Rattle.ctf_merge.proofs.laws.merge_is_cut.Goals as goal

pub returns : goal.returns
returns c = merged_is_cut
