use Rattle.ctf_meaning_steps.proofs.Text as text
use Rattle.ctf_meaning_steps.proofs.laws.walk_tells_own.Goals as goal

pub returns : goal.returns
returns c = text.walk_tells_own
