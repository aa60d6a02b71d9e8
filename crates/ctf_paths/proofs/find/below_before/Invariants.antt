use Rattle.std.proofs.Common.{◌≡◌, drop, map}
use Rattle.std.specs.Prelude.{filter_map}
use Rattle.ctf_meaning.specs.There.{first}
use Rattle.ctf_meaning.specs.Paths as paths
use Rattle.ctf_paths.specs.Spots.{earlier_by}
use Rattle.ctf_paths.specs.Finding.{of_scopes}
use Rattle.ctf_paths.proofs.find.below_before.Given as goal

abbrev pub invariant-loop-earlier : goal.invariant-loop-earlier
invariant-loop-earlier l = first (filter_map (paths.found_below l.scope l.words) (of_scopes (map earlier_by (drop l.earlier-index l.before)))) ≡ first (filter_map (paths.found_below l.scope l.words) (of_scopes (map earlier_by l.before)))
