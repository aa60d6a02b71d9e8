-- When each fault is reported.
use Rattle.std.specs.Prelude.{ℕ, ◌≤◌, List, Option, Some, None}
use Rattle.tsdl_text.specs.declared.token.Token.{Token}
use Rattle.tsdl_grammar.specs.Spelling.{IsUnspelled, last_line}
use Rattle.tsdl_grammar.specs.Nesting.{NestsDeeper}
use Rattle.tsdl_parse.specs.declared.metadata.TheConstants.{BRACE_LIMIT}
use Rattle.tsdl_parse.specs.declared.fault.SyntaxFault.{SyntaxFault}
use Rattle.tsdl_parse.specs.declared.fault.SyntaxFault.TheVariants as fault

-- No tree is spelled, and the line is one of the tokens' lines; or braces nest deeper than the limit.
-- `NoMemory` may come in the place of any answer.
abbrev pub IsCause : SyntaxFault → List Token → Type 0
IsCause (fault.Syntax line) ts = IsUnspelled ts × (1 ≤ line) × (line ≤ last_line ts)
IsCause fault.TooDeep ts = NestsDeeper BRACE_LIMIT ts
IsCause fault.NoMemory ts = Unit {0}

-- the line of a syntax error
abbrev pub line_of : SyntaxFault → Option ℕ
line_of (fault.Syntax line) = Some line
line_of fault.TooDeep = None
line_of fault.NoMemory = None
