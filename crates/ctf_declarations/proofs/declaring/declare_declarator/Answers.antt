use Rattle.std.proofs.Common.{[], ◌∷◌, ◌∙◌}
use Rattle.ctf_meaning.specs.Name.{Plain}
use Rattle.ctf_meaning_steps.specs.Seen.{declare_each}
use Rattle.ctf_declared_class.specs.Knowns.{known}
use Rattle.ctf_declarations.specs.Views.{names_in}
use Rattle.ctf_declarations.proofs.Steps.{follows_same}
use Rattle.ctf_declarations.proofs.declaring.declare_declarator.Goals as goal

pub returns : goal.returns
returns c =
    follows_same (λ _. names_in c.declare_one.new.own) c.declare_one.result _ _
    (λ j. declare_each (names_in c.args.own.now) (known c.args.class.now)
    (record { name = Plain ((c.in_ok-from_slice.ensures ∙ c.as_slice.ensures) j ∷ []); lengths = c.as_slice-2.ensures j } ∷ []))
    c.declare_one.ensures
