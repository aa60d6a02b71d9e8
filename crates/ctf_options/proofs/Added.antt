-- What an added argument makes of a command.
use Rattle.std.proofs.Common.{◌≡◌, ◌∙◌, ap, false, Result, IfOk}
use Rattle.std.proofs.lemmas.Result.{IfOk-weaker}
use Rattle.clap.specs.Built.{AddsArg}
use Rattle.clap.specs.Walk.{Rule, rule_of}
use Rattle.clap.specs.Simple.{app_of, with_rule}
use Rattle.clap.specs.declared.builder.arg.Arg.{Arg}
use Rattle.clap.specs.declared.builder.command.Command.{Command}

pub added : {E : Type 0} (r : Result Command E) (command : Command) (arg : Arg) (rule : Rule) → rule_of arg ≡ rule → arg.global ≡ false
    → IfOk r (AddsArg command arg) → IfOk r (λ after. app_of after ≡ with_rule (app_of command) rule)
added r command arg rule is local h = IfOk-weaker r _ _ (λ after adds. adds.shape local ∙ ap (with_rule (app_of command)) is) h
