use Rattle.std.proofs.Common.{◌≡◌, rules}
use Rattle.clap.specs.Walk.{rule_of}
use Rattle.ctf_options.specs.Command.{dirs_rule}
use Rattle.ctf_options.proofs.Added.{added}
use Rattle.ctf_options.proofs.command.with_dirs.Goals as goal

pub returns : goal.returns
returns c =
    let is : rule_of c.required-dirs.result ≡ dirs_rule = search rules in
    added c.arg.result c.args.command c.required-dirs.result dirs_rule is (search rules) c.arg.ensures
