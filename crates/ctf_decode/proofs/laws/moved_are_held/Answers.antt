use Rattle.ctf_decode.proofs.Held.{moved_held}
use Rattle.ctf_decode.proofs.laws.moved_are_held.Goals as goal

pub returns : goal.returns
returns c = λ k v. moved_held k v
