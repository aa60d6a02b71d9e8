use Rattle.ctf_meaning_steps.proofs.Text as text
use Rattle.ctf_meaning_steps.proofs.laws.walk_finds_scopes.Goals as goal

pub returns : goal.returns
returns c = text.walk_finds_scopes
