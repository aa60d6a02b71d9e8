use Rattle.std.proofs.Common.{◌≡◌, ◌<◌, ℕ, None, get_or, length}
use Rattle.std.specs.Ordering.{nat_cmp}
use Rattle.std.specs.BTreeMap.{get}
use Rattle.ctf_class.proofs.sorted.near_places.Given as goal

abbrev pub invariant-loop-id : goal.invariant-loop-id
invariant-loop-id l = record {
  many : length l.near ≡ l.id;
  are : (id : ℕ) → id < length l.near → get_or l.near id None ≡ get nat_cmp l.all id;
}
