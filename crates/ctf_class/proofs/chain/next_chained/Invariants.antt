use Rattle.std.proofs.Common.{◌≡◌, ℕ, false, ◌<◌, ◌≤◌}
use Rattle.ctf_class.specs.Labels.{shows_at}
use Rattle.ctf_class.proofs.chain.next_chained.Given as goal

abbrev pub invariant-loop-place : goal.invariant-loop-place
invariant-loop-place l = (k : ℕ) → l.begin ≤ k → k < l.place → shows_at l.labels l.number k ≡ false
