use Rattle.std.proofs.Common.{◌∙◌, ap, sym}
use Rattle.ctf_decode.specs.Views.{shape, val}
use Rattle.ctf_decode.proofs.Views.{form-is, shape-Integer}
use Rattle.ctf_packet.specs.Roles as roles
use Rattle.ctf_packet.proofs.roles.unsigned_field.Goals as goal

pub returns-in-Integer : goal.returns-in-Integer
returns-in-Integer c =
    let k = c.args.class.now in
    let e = form-is k ∙ ap (λ kind. shape kind k.align) c.in-Integer.is ∙ shape-Integer c.in-Integer.integer k.align in
    c.unsigned_integer.ensures k.align ∙ ap (λ f. roles.unsigned_field f (val c.args.value.now)) (sym e)
