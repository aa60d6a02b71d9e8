use Rattle.std.proofs.Common.{◌≡◌, ◌++◌, map, drop}
use Rattle.ctf_decode.specs.Values.{vals_of}
use Rattle.ctf_decode.specs.Forms.{parts_of}
use Rattle.ctf_decode.specs.Views.{form, member_part, val}
use Rattle.ctf_decode.specs.Fields.{moved, member_moved, of_each}
use Rattle.ctf_decode.proofs.moves.+moved.Given as goal

abbrev pub invariant-put_members-loop-i : goal.invariant-put_members-loop-i
invariant-put_members-loop-i l = record {
  moved : l.found.items ++ member_moved (parts_of (map member_part (drop l.i l.members))) (vals_of (map val (drop l.i l.values))) ≡ l.initial.found.items ++ member_moved (parts_of (map member_part l.members)) (vals_of (map val l.values));
}

abbrev pub invariant-put_elements-loop-value : goal.invariant-put_elements-loop-value
invariant-put_elements-loop-value l = record {
  moved : l.found.items ++ of_each (moved (form l.element)) (vals_of (map val (drop l.value-index l.values))) ≡ l.initial.found.items ++ of_each (moved (form l.element)) (vals_of (map val l.values));
}
