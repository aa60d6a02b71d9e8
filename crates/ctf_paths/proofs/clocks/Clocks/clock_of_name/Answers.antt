use Rattle.std.proofs.Common.{◌≡◌, None, ap, ◌∙◌, rules}
use Rattle.std.specs.Prelude.{option_copied, position}
use Rattle.ctf_meaning.specs.Name.{same_word}
use Rattle.ctf_paths.proofs.ByName.{named_at, named_nowhere}
use Rattle.ctf_paths.proofs.clocks.Clocks.clock_of_name.Goals as goal

pub returns-in_err-place : goal.returns-in_err-place
returns-in_err-place c =
    let none : option_copied c.from_residual.result ≡ None = search rules in
    let at = ap (position (λ word. same_word word c.args.name.now)) c.args.self.now.names_are in
    none ∙ named_nowhere c.args.self.now.clocks.now c.args.name.now (c.in_err-place.ensures ∙ at)

pub returns : goal.returns
returns c =
    let at = ap (position (λ word. same_word word c.args.name.now)) c.args.self.now.names_are in
    c.nth.ensures ∙ named_at c.args.self.now.clocks.now c.args.name.now c.in_ok-place.field-0 (c.in_ok-place.ensures ∙ at)
