use Rattle.std.proofs.Common.{◌≡◌, ◌++◌, map, drop}
use Rattle.std.specs.Prelude.{filter_map, option_and_then}
use Rattle.ctf_paths.specs.Spots.{earlier_by}
use Rattle.ctf_meaning.specs.Scopes.{scope_of, frame_by}
use Rattle.ctf_types.specs.Texts.{home_by}
use Rattle.ctf_types.proofs.text.KnownText.before.Given as goal

abbrev pub ghost-structure : goal.ghost-structure
ghost-structure g a = g.text

abbrev pub invariant-loop-earlier : goal.invariant-loop-earlier
invariant-loop-earlier g l =
    map earlier_by l.found.items ++ filter_map (λ s. option_and_then (frame_by s) (scope_of g.text (home_by l.home) s)) (drop l.earlier-index l.scopes)
    ≡ filter_map (λ s. option_and_then (frame_by s) (scope_of g.text (home_by l.home) s)) l.scopes
