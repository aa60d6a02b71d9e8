use Rattle.std.proofs.Common.{◌-◌, length}
use Rattle.tsdl_text.proofs.Lexing.{CutTo}
use Rattle.tsdl_text.proofs.lexer.tokens.Given as goal

abbrev pub invariant-loop-start : goal.invariant-loop-start
invariant-loop-start l = CutTo l.text l.start l.line l.found.items

abbrev pub decreases-loop-start : goal.decreases-loop-start
decreases-loop-start l = length l.text - l.start
