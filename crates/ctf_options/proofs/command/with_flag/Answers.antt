use Rattle.std.proofs.Common.{◌≡◌, rules}
use Rattle.clap.specs.Walk.{rule_of}
use Rattle.ctf_options.specs.Command.{flag_rule}
use Rattle.ctf_options.proofs.Added.{added}
use Rattle.ctf_options.proofs.command.with_flag.Goals as goal

pub returns : goal.returns
returns c =
    let is : rule_of c.action-flag.result ≡ flag_rule c.args.name.now = search rules in
    added c.arg.result c.args.command c.action-flag.result (flag_rule c.args.name.now) is (search rules) c.arg.ensures
