use Rattle.ctf_decode.proofs.Sound.{walk_is}
use Rattle.ctf_packet.proofs.laws.walk_finds_what_stands.Goals as goal

pub returns : goal.returns
returns c = λ k d env p s. walk_is k d env p s
