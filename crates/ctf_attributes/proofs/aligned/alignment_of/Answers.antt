use Rattle.ctf_attributes.proofs.AlignedLemmas.{aligned-told}
use Rattle.ctf_attributes.proofs.aligned.alignment_of.Goals as goal

pub returns : goal.returns
returns c = record { told = aligned-told c.args.bits c.new.result c.ok_or.result c.new.ensures c.ok_or.ensures.value }
