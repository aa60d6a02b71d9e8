use Rattle.std.proofs.Common.{◌≡◌, length, map, take}
use Rattle.ctf_decode.specs.Values.{unsigned}
use Rattle.ctf_decode.specs.Views.{val}
use Rattle.ctf_decode.proofs.octets.each_number_into.Given as goal

abbrev pub invariant-loop-i : goal.invariant-loop-i
invariant-loop-i l = record {
  kept : length l.values ≡ length l.bytes;
  done : map val (take l.i l.values) ≡ map unsigned (take l.i l.bytes);
}
