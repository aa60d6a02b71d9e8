use Rattle.std.proofs.Common.{[], ◌∷◌, option_map}
use Rattle.ctf_meaning.specs.Name.{Plain}
use Rattle.ctf_meaning.specs.Parts.{plainly}
use Rattle.ctf_declared_class.specs.Knowns.{known}
use Rattle.ctf_declarations.specs.Given.{given_by}
use Rattle.ctf_declarations.specs.Views.{name, names_in}
use Rattle.ctf_declarations.proofs.Declares.{declare_then}
use Rattle.ctf_declarations.proofs.declaring.declare_alias.Goals as goal

pub returns : goal.returns
returns c =
    rw c.own_name.ensures
    (declare_then (names_in c.args.own.now) (names_in c.declare_name.new.own) (known c.args.class.now) (given_by (option_map name c.own_name.result)) (plainly (Plain c.args.words.now) ∷ []) (λ _. names_in c.declare_one.new.own) c.declare_one.result
    c.in_ok-declare_name.ensures c.declare_one.ensures)
