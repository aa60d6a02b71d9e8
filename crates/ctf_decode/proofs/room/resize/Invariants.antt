use Rattle.std.proofs.Common.{◌≡◌, ◌+◌, ◌-◌, length}
use Rattle.ctf_decode.proofs.room.resize.Given as goal

abbrev pub invariant-loop-more : goal.invariant-loop-more
invariant-loop-more l = length l.values + (l.missing - l._more) ≡ l.count
