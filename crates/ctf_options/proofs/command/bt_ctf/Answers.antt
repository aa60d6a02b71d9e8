use Rattle.std.proofs.Common.{◌≡◌, ◌∙◌, ap, codes}
use Rattle.std.proofs.lemmas.Result.{IfOk-weaker}
use Rattle.clap.specs.Simple.{App, app_of, new_app, with_rule}
use Rattle.ctf_options.specs.Command.{option_rule, flag_rule, dirs_rule}
use Rattle.ctf_options.proofs.command.bt_ctf.Goals as goal

abbrev a0 : App
a0 = new_app (codes "bt-ctf")

abbrev a1 : App
a1 = with_rule a0 (option_rule (codes "begin"))

abbrev a2 : App
a2 = with_rule a1 (option_rule (codes "end"))

abbrev a3 : App
a3 = with_rule a2 (option_rule (codes "timerange"))

abbrev a4 : App
a4 = with_rule a3 (flag_rule (codes "clock-cycles"))

abbrev a5 : App
a5 = with_rule a4 (flag_rule (codes "clock-date"))

abbrev a6 : App
a6 = with_rule a5 (flag_rule (codes "clock-gmt"))

abbrev a7 : App
a7 = with_rule a6 (flag_rule (codes "clock-seconds"))

abbrev a8 : App
a8 = with_rule a7 (flag_rule (codes "no-delta"))

abbrev a9 : App
a9 = with_rule a8 (option_rule (codes "zone"))

abbrev a10 : App
a10 = with_rule a9 (option_rule (codes "clock-offset"))

abbrev a11 : App
a11 = with_rule a10 (option_rule (codes "clock-offset-ns"))

pub returns : goal.returns
returns c =
    let e0 : app_of c.new-command.result ≡ a0 = c.new-command.ensures.app in
    let e1 : app_of c.in_ok-command.command ≡ a1 = c.in_ok-command.ensures ∙ ap (λ (a : App). with_rule a (option_rule (codes "begin"))) e0 in
    let e2 : app_of c.in_ok-command-2.command ≡ a2 = c.in_ok-command-2.ensures ∙ ap (λ (a : App). with_rule a (option_rule (codes "end"))) e1 in
    let e3 : app_of c.in_ok-command-3.command ≡ a3 = c.in_ok-command-3.ensures ∙ ap (λ (a : App). with_rule a (option_rule (codes "timerange"))) e2 in
    let e4 : app_of c.in_ok-command-4.command ≡ a4 = c.in_ok-command-4.ensures ∙ ap (λ (a : App). with_rule a (flag_rule (codes "clock-cycles"))) e3 in
    let e5 : app_of c.in_ok-command-5.command ≡ a5 = c.in_ok-command-5.ensures ∙ ap (λ (a : App). with_rule a (flag_rule (codes "clock-date"))) e4 in
    let e6 : app_of c.in_ok-command-6.command ≡ a6 = c.in_ok-command-6.ensures ∙ ap (λ (a : App). with_rule a (flag_rule (codes "clock-gmt"))) e5 in
    let e7 : app_of c.in_ok-command-7.command ≡ a7 = c.in_ok-command-7.ensures ∙ ap (λ (a : App). with_rule a (flag_rule (codes "clock-seconds"))) e6 in
    let e8 : app_of c.in_ok-command-8.command ≡ a8 = c.in_ok-command-8.ensures ∙ ap (λ (a : App). with_rule a (flag_rule (codes "no-delta"))) e7 in
    let e9 : app_of c.in_ok-command-9.command ≡ a9 = c.in_ok-command-9.ensures ∙ ap (λ (a : App). with_rule a (option_rule (codes "zone"))) e8 in
    let e10 : app_of c.in_ok-command-10.command ≡ a10 = c.in_ok-command-10.ensures ∙ ap (λ (a : App). with_rule a (option_rule (codes "clock-offset"))) e9 in
    let e11 : app_of c.in_ok-command-11.command ≡ a11 = c.in_ok-command-11.ensures ∙ ap (λ (a : App). with_rule a (option_rule (codes "clock-offset-ns"))) e10 in
    IfOk-weaker c.with_dirs.result _ _ (λ after e. e ∙ ap (λ (a : App). with_rule a dirs_rule) e11) c.with_dirs.ensures
