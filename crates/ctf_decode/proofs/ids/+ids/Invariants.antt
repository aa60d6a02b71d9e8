use Rattle.std.proofs.Common.{◌≡◌, map, drop}
use Rattle.std.specs.List.{last_or}
use Rattle.ctf_decode.specs.Values.{vals_of}
use Rattle.ctf_decode.specs.Forms.{parts_of}
use Rattle.ctf_decode.specs.Views.{form, member_part, val}
use Rattle.ctf_decode.specs.Fields.{ids, member_ids, of_each}
use Rattle.ctf_decode.proofs.ids.+ids.Given as goal

abbrev pub invariant-last_in_members-loop-i : goal.invariant-last_in_members-loop-i
invariant-last_in_members-loop-i l =
    last_or l.last (member_ids (parts_of (map member_part (drop l.i l.members))) (vals_of (map val (drop l.i l.values)))) ≡ last_or l.initial.last (member_ids (parts_of (map member_part l.members)) (vals_of (map val l.values)))

abbrev pub invariant-last_in_elements-loop-value : goal.invariant-last_in_elements-loop-value
invariant-last_in_elements-loop-value l =
    last_or l.last (of_each (ids (form l.element)) (vals_of (map val (drop l.value-index l.values)))) ≡ last_or l.initial.last (of_each (ids (form l.element)) (vals_of (map val l.values)))
