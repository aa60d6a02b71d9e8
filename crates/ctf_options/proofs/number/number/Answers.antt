use Rattle.std.proofs.Common.{◌≢◌, ◌∙◌, get_or, rules, arith}
use Rattle.std.proofs.lemmas.Grind.{common_steps}
use Rattle.ctf_options.proofs.Digits.{number_read}
use Rattle.ctf_options.proofs.number.number.Goals as goal

pub returns : goal.returns
returns c =
    let says = c.starts_with.ensures.byte (search rules) (search rules) (λ w o h. h) in
    let plain : get_or c.args.text.now 0 0 ≢ 43 = grind (arith, common_steps, says, c.if-starts_with.false) in
    c.ok.ensures.value ∙ number_read c.args.text.now c.parse.result c.parse.ensures.value.0 plain
