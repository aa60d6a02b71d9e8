use Rattle.std.proofs.Common.{◌≡◌, map, take}
use Rattle.ctf_paths.proofs.clocks.names_of.Given as goal

abbrev pub invariant-loop-clock : goal.invariant-loop-clock
invariant-loop-clock l = l.names ≡ map (λ c. c.name) (take l.clock-index l.clocks)
