use Rattle.std.proofs.Common.{◌≡◌, ℕ, false, ◌-◌, ◌<◌, ◌≤◌}
use Rattle.ctf_class.specs.Labels.{covers}
use Rattle.ctf_class.specs.LabelSearch.{span_in}
use Rattle.ctf_class.proofs.apart.halved_label.Given as goal

abbrev pub invariant-loop-low : goal.invariant-loop-low
invariant-loop-low l = record {
  within : l.high ≤ l.count;
  below : (k : ℕ) → k < l.low → k < l.count → covers (span_in l.labels l.order k) l.number ≡ false;
  above : (k : ℕ) → l.high ≤ k → k < l.count → covers (span_in l.labels l.order k) l.number ≡ false;
}

abbrev pub decreases-loop-low : goal.decreases-loop-low
decreases-loop-low l = l.high - l.low
