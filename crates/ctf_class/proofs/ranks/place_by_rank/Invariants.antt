use Rattle.std.proofs.Common.{◌≡◌, ℕ, false, ◌-◌, ◌<◌, ◌≤◌, length, bytes_eq}
use Rattle.ctf_class.specs.NameRanks.{name_in}
use Rattle.ctf_class.proofs.ranks.place_by_rank.Given as goal

abbrev pub invariant-loop-low : goal.invariant-loop-low
invariant-loop-low l = record {
  within : l.high ≤ length l.names;
  below : (k : ℕ) → k < l.low → k < length l.names → bytes_eq (name_in l.names l.order k) l.name ≡ false;
  above : (k : ℕ) → l.high ≤ k → k < length l.names → bytes_eq (name_in l.names l.order k) l.name ≡ false;
}

abbrev pub decreases-loop-low : goal.decreases-loop-low
decreases-loop-low l = l.high - l.low
