use Rattle.std.proofs.Common.{subst}
use Rattle.std.proofs.lemmas.Result.{err_from_is_err_and}
use Rattle.ctf_class.specs.declared.route.Scope.TheVariants.{EventFields}
use Rattle.ctf_types.specs.Texts.{IsScopeLinked, home_by}
use Rattle.ctf_types.proofs.Heads.{widened, event_context_fails, fields_fail}
use Rattle.ctf_types.proofs.Scoped.{always_made}
use Rattle.ctf_types.proofs.text.KnownText.event.Goals as goal

pub returns-in_err-context : goal.returns-in_err-context
returns-in_err-context g c =
    let p = err_from_is_err_and c.from_residual-in_err-context.result c.from_residual-in_err-context.ensures.1 in rw (p.1, p.2)
    (widened c.in_err-context.field-0.0 (event_context_fails g.text c.args.self.now.order (home_by c.args.home.now) c.in_err-context.field-0.0) c.in_err-context.ensures)

pub returns-in_err-fields : goal.returns-in_err-fields
returns-in_err-fields g c =
    let p = err_from_is_err_and c.from_residual-in_err-fields.result c.from_residual-in_err-fields.ensures.1 in rw (p.1, p.2)
    (widened c.in_err-fields.field-0.0 (fields_fail g.text c.args.self.now.order (home_by c.args.home.now) c.in_err-fields.field-0.0) c.in_err-fields.ensures)

pub returns-in-None : goal.returns-in-None
returns-in-None g c =
    absurd (always_made g.text c.args.self.now.order (home_by c.args.home.now) EventFields c.requires.1.0 c.requires.1.1
    (subst (IsScopeLinked g.text c.args.self.now.order (home_by c.args.home.now) EventFields) c.in-None.is c.in_ok-fields.ensures))
