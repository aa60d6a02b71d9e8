use Rattle.std.proofs.Common.{◌∙◌, ap, w64, of_z, rules}
use Rattle.std.specs.Prelude.{FitsSigned}
use Rattle.std.proofs.lemmas.Int.{to_z-of_z}
use Rattle.ctf_packet.proofs.Moving.{signed_one}
use Rattle.ctf_packet.proofs.moves.moved_by_signed.Goals as goal

pub returns-in-Signed : goal.returns-in-Signed
returns-in-Signed c =
    let fits : FitsSigned w64 c.in-Signed.number = search rules in
    c.advance.ensures ∙ signed_one c.args.timeline.now c.args.clock c.args.width c.bits_of.result c.args.value.now c.in-Signed.number c.in-Signed.is (c.bits_of.ensures ∙ ap (of_z w64) (to_z-of_z w64 c.in-Signed.number fits))
