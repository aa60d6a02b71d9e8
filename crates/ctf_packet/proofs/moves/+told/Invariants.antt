use Rattle.std.proofs.Common.{◌≡◌, map, drop}
use Rattle.std.specs.List.{last_or}
use Rattle.ctf_clock.specs.Clock.{advanced_by}
use Rattle.ctf_decode.specs.Values.{vals_of}
use Rattle.ctf_decode.specs.Forms.{parts_of}
use Rattle.ctf_decode.specs.Fields as fields
use Rattle.ctf_decode.specs.Views.{form, member_part, val}
use Rattle.ctf_decode.specs.Fields.{of_each}
use Rattle.ctf_packet.specs.Moved.{moved}
use Rattle.ctf_packet.proofs.Moving.{members}
use Rattle.ctf_packet.proofs.moves.+told.Given as goal

abbrev pub invariant-tell_members-loop-i : goal.invariant-tell_members-loop-i
invariant-tell_members-loop-i l =
    (advanced_by l.timeline l.told.clock (members (drop l.i l.members) (drop l.i l.values)) ≡ advanced_by l.fn.timeline l.initial.told.clock (members l.fn.members l.fn.values))
    × (last_or l.told.id (fields.member_ids (parts_of (map member_part (drop l.i l.members))) (vals_of (map val (drop l.i l.values)))) ≡ last_or l.initial.told.id (fields.member_ids (parts_of (map member_part l.fn.members)) (vals_of (map val l.fn.values))))

abbrev pub invariant-tell_elements-loop-value : goal.invariant-tell_elements-loop-value
invariant-tell_elements-loop-value l =
    (advanced_by l.timeline l.told.clock (of_each (moved (form l.element)) (vals_of (map val (drop l.value-index l.values)))) ≡ advanced_by l.fn.timeline l.initial.told.clock (of_each (moved (form l.fn.element)) (vals_of (map val l.fn.values))))
    × (last_or l.told.id (fields.of_each (fields.ids (form l.element)) (vals_of (map val (drop l.value-index l.values)))) ≡ last_or l.initial.told.id (fields.of_each (fields.ids (form l.fn.element)) (vals_of (map val l.fn.values))))
