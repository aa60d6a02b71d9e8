use Rattle.std.proofs.Common.{◌≡◌, List, ℕ, Some, ◌∙◌, subst}
use Rattle.ctf_cli.proofs.opening.read_metadata.Goals as goal

pub returns-in-Ok : goal.returns-in-Ok
returns-in-Ok g c = λ tells.
    let read = c.in-Ok.ensures tells in
    (read.0, subst (λ (path : List ℕ). (g.F.Folders.holds c.args.folders.now).bytes path ≡ Some read.0) (c.as_str.ensures ∙ c.in_ok-path.ensures) read.1, read.2)
