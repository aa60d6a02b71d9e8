use Rattle.std.proofs.Common.{◌+◌, ◌*◌, ◌^◌, ◌<◌, ◌∙◌, w64, sym, subst, ap}
use Rattle.std.proofs.lemmas.Int.{to_z-of_z}
use Rattle.ctf_bits.specs.Number.{number, signed_number}
use Rattle.ctf_bits.specs.Placed.{Placed}
use Rattle.ctf_bits.proofs.Numbers.{number-lt}
use Rattle.ctf_bits.proofs.Signs.{signed_number-number}
use Rattle.ctf_bits.proofs.window.Window.signed.Goals as goal

pub twos_complement-requires-clause-bits : goal.twos_complement-requires-clause-bits
twos_complement-requires-clause-bits c =
    let bytes = c.args.bytes.now in
    let p = 8 * c.args.first + c.args.self.now.place in
    let few : c.bits.result < 2 ^ c.args.self.now.size = subst (λ v. v < 2 ^ c.args.self.now.size) (sym c.bits.ensures) (number-lt c.args.order bytes p c.args.self.now.size) in
    subst (λ n. c.bits.result < 2 ^ n) (sym (ap (λ (s : Placed). s.size) c.self.view_is)) few

pub returns : goal.returns
returns c =
    let bytes = c.args.bytes.now in
    let p = 8 * c.args.first + c.args.self.now.place in
    let size = ap (λ (s : Placed). s.size) c.self.view_is in
    to_z-of_z w64 c.twos_complement.result (record { sfits = c.twos_complement.type_inv }) ∙ c.twos_complement.ensures
    ∙ signed_number-number c.args.order bytes p c.self.inside.size c.bits.result c.self.invariant.0 (c.bits.ensures ∙ ap (number c.args.order bytes p) (sym size))
    ∙ ap (signed_number c.args.order bytes p) size
