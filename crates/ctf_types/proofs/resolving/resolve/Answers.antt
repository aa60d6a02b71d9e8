use Rattle.std.proofs.lemmas.Result.{err_from_is_err_and}
use Rattle.ctf_meaning.specs.Reading.{written}
use Rattle.ctf_meaning_steps.proofs.Text.{walk_tells_own}
use Rattle.ctf_types.proofs.Firsts.{own_told}
use Rattle.ctf_types.proofs.Heads.{widened}
use Rattle.ctf_types.proofs.resolving.resolve.Goals as goal

pub returns-in_err-rows : goal.returns-in_err-rows
returns-in_err-rows c =
    let p = err_from_is_err_and c.from_residual.result c.from_residual.ensures.1 in rw (p.1, p.2)
    (widened c.in_err-rows.field-0.0
    (λ told. own_told (written c.args.tree.now) c.in_err-rows.field-0.0 (walk_tells_own (written c.args.tree.now) c.in_err-rows.field-0.0 told))
    c.in_err-rows.ensures)
