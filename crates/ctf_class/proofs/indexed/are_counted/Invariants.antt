use Rattle.std.proofs.Common.{◌≡◌, map, take}
use Rattle.std.specs.List.{range_with_len}
use Rattle.ctf_class.proofs.indexed.are_counted.Given as goal

abbrev pub invariant-loop-place : goal.invariant-loop-place
invariant-loop-place g l = map g.T.HasId.id_of (take l.place l.items) ≡ range_with_len 0 l.place
