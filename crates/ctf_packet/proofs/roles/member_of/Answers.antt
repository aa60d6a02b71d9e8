use Rattle.std.proofs.Common.{◌∙◌, ap, sym, map}
use Rattle.ctf_class.specs.Fronts.{place_named}
use Rattle.ctf_class.specs.RoleNames.{role_name}
use Rattle.ctf_decode.specs.Forms.{parts_of}
use Rattle.ctf_decode.specs.Views.{member_part, val}
use Rattle.ctf_packet.specs.Roles.{member_named}
use Rattle.ctf_packet.proofs.Members.{of_class}
use Rattle.ctf_packet.proofs.roles.member_of.Goals as goal

pub returns : goal.returns
returns c =
    let name = role_name c.args.role in
    let k = c.args.class.now in
    c.member_at.ensures name (c.place.ensures ∙ ap (place_named name) (sym c.members.ensures))
    ∙ (λ i. member_named name (parts_of (map member_part (c.members.ensures i))) (c.members_in.ensures i))
    ∙ sym (of_class name k (val c.args.value.now))
