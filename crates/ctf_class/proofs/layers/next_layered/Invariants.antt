use Rattle.std.proofs.Common.{◌≡◌, ℕ, false, ◌-◌, ◌<◌, ◌≤◌, length}
use Rattle.ctf_class.specs.Labels.{shows_at}
use Rattle.ctf_class.proofs.layers.next_layered.Given as goal

abbrev pub invariant-loop-place : goal.invariant-loop-place
invariant-loop-place l = record {
  after : l.begin ≤ l.from;
  none : (k : ℕ) → l.begin ≤ k → k < l.from → shows_at l.labels l.number k ≡ false;
}

abbrev pub decreases-loop-place : goal.decreases-loop-place
decreases-loop-place l = length l.labels - l.from
