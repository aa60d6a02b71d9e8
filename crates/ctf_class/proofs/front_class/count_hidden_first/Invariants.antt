use Rattle.std.proofs.Common.{length, ◌-◌, ◌≡◌, drop, ◌+◌}
use Rattle.std.specs.List.{prefix_len}
use Rattle.ctf_class.proofs.front_class.count_hidden_first.Given as goal

abbrev pub invariant-loop-count : goal.invariant-loop-count
invariant-loop-count l =
    l.count + prefix_len (λ hidden. hidden) (drop l.count l.hidden) ≡ prefix_len (λ hidden. hidden) l.hidden

abbrev pub decreases-loop-count : goal.decreases-loop-count
decreases-loop-count l = length l.hidden - l.count
