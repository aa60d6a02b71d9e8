use Rattle.std.proofs.Common.{◌∙◌}
use Rattle.std.proofs.lemmas.Result.{err_from_is_err_and}
use Rattle.ctf_declared_class.specs.Knowns.{known}
use Rattle.ctf_declarations.specs.Views.{names_in}
use Rattle.ctf_declarations.proofs.Steps.{tell_same}
use Rattle.ctf_declarations.proofs.Declares.{each_next, each_fault}
use Rattle.ctf_declarations.proofs.declaring.declare_declarators.Goals as goal

pub loop-declarator-preserved : goal.loop-declarator-preserved
loop-declarator-preserved c =
    each_next (names_in c.loop-declarator.own) (known c.args.class.now) c.args.declarators.now c.loop-declarator.declarator-index c.declarator-item.result c.declarator-item.is c.loop-declarator-test.true
    (names_in c.declare_declarator.new.own) c.in_ok-declare_declarator.ensures
    ∙ c.loop-declarator.invariant

pub returns-in_err-declare_declarator : goal.returns-in_err-declare_declarator
returns-in_err-declare_declarator c =
    let p = err_from_is_err_and c.from_residual.result c.from_residual.ensures.1 in rw (p.1, p.2)
    (tell_same _ _ c.in_err-declare_declarator.field-0.0 c.loop-declarator.invariant
    (each_fault (names_in c.loop-declarator.own) (known c.args.class.now) c.args.declarators.now c.loop-declarator.declarator-index c.declarator-item.result c.declarator-item.is c.loop-declarator-test.true
    c.in_err-declare_declarator.field-0.0 c.in_err-declare_declarator.ensures))
