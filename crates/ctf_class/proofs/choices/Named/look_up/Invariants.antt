use Rattle.std.proofs.Common.{ℕ, ◌-◌, ◌<◌, length, take}
use Rattle.ctf_class.proofs.ChoicesLemmas.{Silent}
use Rattle.ctf_class.proofs.choices.Named.look_up.Given as goal

abbrev pub invariant-loop-place : goal.invariant-loop-place
invariant-loop-place l = (before : ℕ) → before < l.begin → Silent (take l.self.count l.self.names) l.self.labels l.number before

abbrev pub decreases-loop-place : goal.decreases-loop-place
decreases-loop-place l = length l.self.labels - l.begin
