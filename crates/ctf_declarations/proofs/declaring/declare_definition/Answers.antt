use Rattle.std.proofs.Common.{map, option_map}
use Rattle.ctf_declared_class.specs.Knowns.{known}
use Rattle.ctf_declarations.specs.Given.{given_by, by_declarator}
use Rattle.ctf_declarations.specs.Views.{name, names_in}
use Rattle.ctf_declarations.proofs.Declares.{declare_then}
use Rattle.ctf_declarations.proofs.declaring.declare_definition.Goals as goal

pub returns : goal.returns
returns c =
    rw c.own_name.ensures
    (declare_then (names_in c.args.own.now) (names_in c.declare_name.new.own) (known c.args.class.now) (given_by (option_map name c.own_name.result)) (map by_declarator c.args.declarators.now) (λ _. names_in c.declare_declarators.new.own) c.declare_declarators.result
    c.in_ok-declare_name.ensures c.declare_declarators.ensures)
