use Rattle.std.proofs.Common.{◌≡◌, ◌+◌, ◌*◌, ◌++◌, ◌≤◌, take}
use Rattle.ctf_class.specs.Escapes.{escaped}
use Rattle.ctf_format.proofs.text.put_each.Given as goal

abbrev pub invariant-loop-byte : goal.invariant-loop-byte
invariant-loop-byte l = record {
  near : l.to ≤ l.at + 4 * l.byte-index;
  text : take l.to l.line ≡ take l.at l.fn.line ++ escaped (take l.byte-index l.bytes);
}
