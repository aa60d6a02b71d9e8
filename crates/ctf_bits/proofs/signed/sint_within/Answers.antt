use Rattle.std.proofs.Common.{◌∙◌, w64}
use Rattle.std.proofs.lemmas.Int.{to_z-of_z}
use Rattle.ctf_bits.proofs.Signs.{signed_number-number}
use Rattle.ctf_bits.proofs.signed.sint_within.Goals as goal

pub returns : goal.returns
returns c =
    to_z-of_z w64 c.twos_complement.result (record { sfits = c.twos_complement.type_inv }) ∙ c.twos_complement.ensures
    ∙ signed_number-number c.args.order c.args.bytes.now c.args.pos c.args.n c.uint_within.result c.requires.some_bits c.uint_within.ensures.value
