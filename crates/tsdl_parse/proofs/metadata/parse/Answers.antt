use Rattle.tsdl_grammar.proofs.LawsSound.{read_is_spelled, deep_is_deeper}
use Rattle.tsdl_grammar.proofs.LawsComplete.{bad_is_unspelled}
use Rattle.tsdl_parse.specs.declared.metadata.TheConstants.{BRACE_LIMIT}
use Rattle.tsdl_parse.proofs.metadata.parse.Goals as goal

pub returns-in-Ok-clause-spelled : goal.returns-in-Ok-clause-spelled
returns-in-Ok-clause-spelled c = (read_is_spelled BRACE_LIMIT c.args.tokens.now c.in-Ok.tree c.in-Ok.ensures).0

pub returns-in-Ok-clause-nested : goal.returns-in-Ok-clause-nested
returns-in-Ok-clause-nested c = (read_is_spelled BRACE_LIMIT c.args.tokens.now c.in-Ok.tree c.in-Ok.ensures).1

pub returns-in-Err-Syntax-clause-fault : goal.returns-in-Err-Syntax-clause-fault
returns-in-Err-Syntax-clause-fault c = (bad_is_unspelled BRACE_LIMIT c.args.tokens.now (rw c.in-Err-Syntax.field-0-is at c.in-Err-Syntax.ensures), c.line_at.ensures.first, c.line_at.ensures.last)

pub returns-in-Err-Deep-clause-fault : goal.returns-in-Err-Deep-clause-fault
returns-in-Err-Deep-clause-fault c = deep_is_deeper BRACE_LIMIT c.args.tokens.now (rw c.in-Err-Deep.field-0-is at c.in-Err-Deep.ensures)
