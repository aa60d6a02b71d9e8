use Rattle.std.proofs.Common.{◌≡◌, ◌+◌, drop}
use Rattle.tsdl_grammar.specs.Spelling.{run}
use Rattle.tsdl_parse.proofs.typenames.run.Given as goal

abbrev pub invariant-loop-token : goal.invariant-loop-token
invariant-loop-token l = (l.count ≡ l.token-index) × (l.count + run (drop l.token-index l.tokens) ≡ run l.tokens)
