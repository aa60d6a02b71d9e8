use Rattle.std.proofs.Common.{◌≡◌, option_map, map, ap, sym, subst, ◌∙◌}
use Rattle.std.specs.Prelude.{IfOk}
use Rattle.ctf_meaning.specs.Paths as paths
use Rattle.ctf_paths.specs.Spots.{earlier_by, frames_around}
use Rattle.ctf_paths.specs.Finding.{enclosing, of_scopes, found_by}
use Rattle.ctf_paths.proofs.Lists.{first_left, first_right}
use Rattle.ctf_paths.proofs.find.found_from_scope.Goals as goal

pub returns-in-Some : goal.returns-in-Some
returns-in-Some c =
    let spot = c.args.spot.now in
    first_left (paths.found_below c.args.scope c.args.words.now) (enclosing 0 (frames_around spot.around.now)) (of_scopes (map earlier_by spot.before.now)) _ (ap (option_map found_by) (sym c.in-Some.is) ∙ c.in_ok-found.ensures)

pub returns-in-None : goal.returns-in-None
returns-in-None c =
    let spot = c.args.spot.now in
    let right = first_right (paths.found_below c.args.scope c.args.words.now) (enclosing 0 (frames_around spot.around.now)) (of_scopes (map earlier_by spot.before.now)) (ap (option_map found_by) (sym c.in-None.is) ∙ c.in_ok-found.ensures) in
    subst (λ found. IfOk c.below_before.result (λ r. option_map found_by r ≡ found)) right c.below_before.ensures
