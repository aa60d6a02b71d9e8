use Rattle.ctf_decode.proofs.Needs.{needs}
use Rattle.ctf_decode.proofs.laws.needs_so_much.Goals as goal

pub returns : goal.returns
returns c = λ k packet more content whole limit earlier env p s n v q longer held b h. needs packet more content whole limit earlier longer held k env p s n v q b h
