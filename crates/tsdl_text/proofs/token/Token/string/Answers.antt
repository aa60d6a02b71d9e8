use Rattle.std.proofs.Common.{◌∙◌}
use Rattle.tsdl_text.proofs.StringLaws.{strings_stand}
use Rattle.tsdl_text.proofs.token.Token.string.Goals as goal

pub returns-in_ok-string_value-in-String-clause-spelled : goal.returns-in_ok-string_value-in-String-clause-spelled
returns-in_ok-string_value-in-String-clause-spelled c = λ values stands. c.in_ok-string_value-in-String.ensures ∙ strings_stand _ values stands
