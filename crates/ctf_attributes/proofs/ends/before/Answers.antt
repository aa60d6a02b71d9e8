use Rattle.ctf_attributes.proofs.EndLemmas.{before-of}
use Rattle.ctf_attributes.proofs.ends.before.Goals as goal

pub returns : goal.returns
returns c = before-of c.args.«end».now c.args.text.now c.strip_suffix.result c.strip_suffix.ensures.cases
