use Rattle.ctf_attributes.proofs.EndLemmas.{after-of}
use Rattle.ctf_attributes.proofs.ends.after.Goals as goal

pub returns : goal.returns
returns c = after-of c.args.beginning.now c.args.text.now c.strip_prefix.result c.strip_prefix.ensures.cases
