use Rattle.std.proofs.Common.{◌≡◌, ◌+◌, ◌*◌, ◌++◌, ◌≤◌, take}
use Rattle.ctf_class.specs.Escapes.{escaped}
use Rattle.ctf_format.proofs.text.put_long.Given as goal

abbrev pub invariant-loop-i : goal.invariant-loop-i
invariant-loop-i l = record {
  near : l.to ≤ l.at + 64 * l.i;
  text : take l.to l.line ≡ take l.at l.fn.line ++ escaped (take (16 * l.i) l.bytes);
}
