use Rattle.std.proofs.Common.{option_map, map, ap, sym, ◌∙◌}
use Rattle.ctf_class.specs.declared.route.Origin.{Origin}
use Rattle.ctf_meaning.specs.Paths as paths
use Rattle.ctf_paths.specs.Spots.{earlier_by, frames_around}
use Rattle.ctf_paths.specs.Finding.{enclosing, of_scopes, start_by}
use Rattle.ctf_paths.proofs.Lists.{find_left, find_right}
use Rattle.ctf_paths.proofs.find.start_of.Goals as goal

pub returns-in-Some : goal.returns-in-Some
returns-in-Some c =
    let spot = c.args.spot.now in
    let has = λ (p : Origin × paths.Frame). paths.has_member c.args.path.now p.1 in
    find_left has (enclosing 0 (frames_around spot.around.now)) (of_scopes (map earlier_by spot.before.now)) _ (ap (option_map start_by) (sym c.in-Some.is) ∙ c.in_ok-start.ensures)

pub returns-in-None : goal.returns-in-None
returns-in-None c =
    let spot = c.args.spot.now in
    let has = λ (p : Origin × paths.Frame). paths.has_member c.args.path.now p.1 in
    c.start_before.ensures
    ∙ find_right has (enclosing 0 (frames_around spot.around.now)) (of_scopes (map earlier_by spot.before.now)) (ap (option_map start_by) (sym c.in-None.is) ∙ c.in_ok-start.ensures)
