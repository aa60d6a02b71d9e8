use Rattle.std.proofs.Common.{◌≡◌, drop, map}
use Rattle.std.specs.Prelude.{find}
use Rattle.ctf_meaning.specs.Paths as paths
use Rattle.ctf_paths.specs.Spots.{earlier_by}
use Rattle.ctf_paths.specs.Finding.{of_scopes}
use Rattle.ctf_paths.proofs.find.start_before.Given as goal

abbrev pub invariant-loop-earlier : goal.invariant-loop-earlier
invariant-loop-earlier l = find (λ p. paths.has_member l.path p.1) (of_scopes (map earlier_by (drop l.earlier-index l.before))) ≡ find (λ p. paths.has_member l.path p.1) (of_scopes (map earlier_by l.before))
