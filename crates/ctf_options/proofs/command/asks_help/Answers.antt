use Rattle.std.proofs.Common.{◌∙◌}
use Rattle.ctf_options.proofs.Refusals.{asked}
use Rattle.ctf_options.proofs.command.asks_help.Goals as goal

pub returns-in-len1-up : goal.returns-in-len1-up
returns-in-len1-up c = c.any_asks.ensures ∙ asked c.args.words.now
