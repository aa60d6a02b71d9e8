use Rattle.std.proofs.Common.{◌≡◌, ◌∙◌, map, sym}
use Rattle.std.specs.String.{string_bytes}
use Rattle.clap.specs.Simple.{app_of}
use Rattle.clap.specs.Values.{kind_of}
use Rattle.ctf_options.proofs.Refusals.{given_rows, taken, stopped, refused}
use Rattle.ctf_options.proofs.command.matches_of.Goals as goal

pub returns-in-Ok : goal.returns-in-Ok
returns-in-Ok c =
    let words = map string_bytes c.args.words.now in (
      taken (app_of c.in_ok-command.command) words c.in_ok-command.ensures c.in-Ok.ensures.kinds,
      given_rows (app_of c.in_ok-command.command) words c.in-Ok.matches c.in_ok-command.ensures c.in-Ok.ensures.matches,
    )

pub returns-in-Err : goal.returns-in-Err
returns-in-Err c =
    let words = map string_bytes c.args.words.now in
    let e : c.kind.result ≡ kind_of c.in-Err.error = c.kind.ensures in
    refused words c.in-Err.error c.refusal.result
    (λ out. c.refusal.ensures.memory (e ∙ out)) c.refusal.ensures.help (λ help. sym e ∙ c.refusal.ensures.kind help) (λ is shows. c.refusal.ensures.bad is (e ∙ shows))
    (stopped (app_of c.in_ok-command.command) words c.in-Err.error c.in_ok-command.ensures c.in-Err.ensures.kinds)
