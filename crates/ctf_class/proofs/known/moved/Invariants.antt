use Rattle.std.proofs.Common.{◌≡◌, map, take}
use Rattle.ctf_class.specs.PlanBuilding.{moved_by}
use Rattle.ctf_class.proofs.known.moved.Given as goal

abbrev pub invariant-loop-route : goal.invariant-loop-route
invariant-loop-route l = l.there ≡ map (moved_by l.by) (take l.route-index l.routes)
