use Rattle.std.proofs.Common.{◌≡◌, ◌*◌, take, nat_eq, false}
use Rattle.std.specs.List.{All}
use Rattle.ctf_format.proofs.window.count_without_zero.Given as goal

abbrev pub invariant-loop-i : goal.invariant-loop-i
invariant-loop-i l = All (λ x. nat_eq x 0 ≡ false) (take (16 * l.i) l.bytes)
