use Rattle.std.proofs.Common.{◌≡◌, None, ◌∙◌, rules}
use Rattle.std.specs.Prelude.{option_copied}
use Rattle.ctf_paths.proofs.Names.{after_member}
use Rattle.ctf_paths.proofs.trail.+after_trail.Goals as goal

pub returns-in_err-after_trail-in-Member : goal.returns-in_err-after_trail-in-Member
returns-in_err-after_trail-in-Member t c =
    let none : option_copied c.from_residual.result ≡ None = search rules in
    none ∙ after_member c.args.trail.now c.in-Member.word c.in-Member.outer c.args.path.now None c.in-Member.is c.in_err-after_trail-in-Member.ensures

pub returns-in_ok-after_trail-in-Member : goal.returns-in_ok-after_trail-in-Member
returns-in_ok-after_trail-in-Member t c =
    c.after_word.ensures
    ∙ after_member c.args.trail.now c.in-Member.word c.in-Member.outer c.args.path.now _ c.in-Member.is c.in_ok-after_trail-in-Member.ensures
