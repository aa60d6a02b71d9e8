use Rattle.std.proofs.Common.{◌∙◌, ap, sym, map}
use Rattle.std.specs.Prelude.{option_and_then}
use Rattle.ctf_class.specs.Fronts.{place_named}
use Rattle.ctf_class.specs.RoleNames.{role_name}
use Rattle.ctf_decode.specs.Forms.{parts_of}
use Rattle.ctf_decode.specs.Views.{member_part, val}
use Rattle.ctf_packet.specs.Roles as roles
use Rattle.ctf_packet.proofs.Members.{of_class}
use Rattle.ctf_packet.proofs.roles.fields_in.Goals as goal

pub returns-clause-first : goal.returns-clause-first
unfolding roles.role
returns-clause-first c =
    let name = role_name c.args.first in
    c.unsigned_at-first.ensures name (c.place.ensures ∙ ap (place_named name) (sym c.members-members.ensures))
    ∙ ap (option_and_then (λ f. roles.unsigned_field f.0 f.1))
    ((λ i. roles.member_named name (parts_of (map member_part (c.members-members.ensures i))) (c.members_in-values.ensures i))
    ∙ sym (of_class name c.args.class.now (val c.args.value.now)))

pub returns-clause-second : goal.returns-clause-second
unfolding roles.role
returns-clause-second c =
    let name = role_name c.args.second in
    c.unsigned_at-second.ensures name (c.place-2.ensures ∙ ap (place_named name) (sym c.members-members.ensures))
    ∙ ap (option_and_then (λ f. roles.unsigned_field f.0 f.1))
    ((λ i. roles.member_named name (parts_of (map member_part (c.members-members.ensures i))) (c.members_in-values.ensures i))
    ∙ sym (of_class name c.args.class.now (val c.args.value.now)))
