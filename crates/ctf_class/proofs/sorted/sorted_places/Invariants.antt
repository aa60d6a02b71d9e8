use Rattle.std.proofs.Common.{◌≡◌, ◌==◌, ℕ, take}
use Rattle.std.specs.List.{position_from}
use Rattle.std.specs.Ordering.{nat_cmp}
use Rattle.std.specs.BTreeMap.{get}
use Rattle.ctf_class.proofs.sorted.sorted_places.Given as goal

abbrev pub invariant-loop-place : goal.invariant-loop-place
invariant-loop-place g l =
    (id : ℕ) → get nat_cmp l.places id ≡ position_from (λ item. g.T.HasId.id_of item == id) 0 (take l.place l.items)
