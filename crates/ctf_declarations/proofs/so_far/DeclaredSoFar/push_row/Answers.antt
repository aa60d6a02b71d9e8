use Rattle.std.proofs.Common.{map, inr}
use Rattle.std.proofs.lemmas.Result.{err_from_is_err_and}
use Rattle.ctf_declarations.specs.DeclaredSoFar.{walked, placed_seen}
use Rattle.ctf_declarations.proofs.Counted.{scopes_fail}
use Rattle.ctf_declarations.proofs.so_far.DeclaredSoFar.push_row.Goals as goal

pub returns-in_err-nodes : goal.returns-in_err-nodes
returns-in_err-nodes c =
    let p = err_from_is_err_and c.from_residual-in_err-nodes.result c.from_residual-in_err-nodes.ensures.1 in rw (p.1, p.2)
    (inr (scopes_fail (walked c.args.self.now) (map placed_seen c.args.row) c.in_err-nodes.field-0.0
    (rw c.as_slice.ensures at c.in_ok-check_all.ensures.0)
    (rw c.as_slice-2.ensures at c.in_err-nodes.ensures)))
