use Rattle.ctf_decode.proofs.Prefix.{stands_more}
use Rattle.ctf_decode.proofs.laws.stands_in_whole.Goals as goal

pub returns : goal.returns
returns c = λ k packet more content whole limit earlier env p v q longer held h. stands_more packet more content whole limit earlier longer held k env p v q h
