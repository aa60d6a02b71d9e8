use Rattle.std.proofs.Common.{map, sym, ap, ◌∙◌}
use Rattle.std.proofs.lemmas.Result.{err_from_is_err_and}
use Rattle.ctf_paths.specs.Spots.{earlier_by}
use Rattle.ctf_declared_class.specs.Knowns.{known}
use Rattle.ctf_declared_class.specs.Views.{shape as shape_by}
use Rattle.ctf_types.specs.Texts.{home_by}
use Rattle.ctf_types.proofs.Heads.{widened}
use Rattle.ctf_types.proofs.Scoped.{declared, fails, told_at}
use Rattle.ctf_types.proofs.text.KnownText.class.Goals as goal

pub returns : goal.returns
returns g c =
    declared g.text c.args.self.now.order (home_by c.args.home.now) c.args.scope (known c.in-Some.known.now) c.in_ok-class.class (sym c.in-Some.ensures)
    (told_at g.text c.args.self.now.order (home_by c.args.home.now) c.args.scope c.args.self.now.clocks.now.clocks.now (map earlier_by c.as_slice.result.now) (known c.in-Some.known.now) (shape_by c.shape-2.result.now) _
    c.requires.clocks (ap (map earlier_by) c.as_slice.ensures.value ∙ c.in_ok-before.ensures) c.shape-2.ensures c.in_ok-class.ensures)

pub returns-in_err-class : goal.returns-in_err-class
returns-in_err-class g c =
    let p = err_from_is_err_and c.from_residual-in_err-class.result c.from_residual-in_err-class.ensures.1 in rw (p.1, p.2)
    (widened c.in_err-class.field-0.0
    (λ told. fails g.text c.args.self.now.order (home_by c.args.home.now) c.args.scope (known c.in-Some.known.now) c.in_err-class.field-0.0 (sym c.in-Some.ensures)
    (c.requires.solid (home_by c.args.home.now) c.args.scope (known c.in-Some.known.now) (sym c.in-Some.ensures))
    (told_at g.text c.args.self.now.order (home_by c.args.home.now) c.args.scope c.args.self.now.clocks.now.clocks.now (map earlier_by c.as_slice.result.now) (known c.in-Some.known.now) (shape_by c.shape-2.result.now) _
    c.requires.clocks (ap (map earlier_by) c.as_slice.ensures.value ∙ c.in_ok-before.ensures) c.shape-2.ensures told))
    c.in_err-class.ensures)
