use Rattle.std.proofs.Common.{◌≡◌, take}
use Rattle.tsdl_grammar.specs.Reading.{words_of}
use Rattle.tsdl_parse.proofs.typenames.words.Given as goal

abbrev pub invariant-loop-token : goal.invariant-loop-token
invariant-loop-token l = l.found.items ≡ words_of (take l.token-index l.tokens)
