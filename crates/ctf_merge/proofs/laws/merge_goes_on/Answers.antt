use Rattle.ctf_merge.proofs.Merging.{merged-item, merged-broken, merged-nothing}
use Rattle.ctf_merge.proofs.laws.merge_goes_on.Goals as goal

pub returns : goal.returns
returns c = record { goes_on = merged-item; breaks = merged-broken; stops = merged-nothing }
