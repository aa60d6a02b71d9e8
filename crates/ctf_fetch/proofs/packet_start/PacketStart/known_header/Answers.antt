use Rattle.std.proofs.Common.{arith, ◌≡◌, ◌++◌, length, min, IfSome, ap, subst, sym, ◌∙◌}
use Rattle.std.proofs.lemmas.List.{length-take}
use Rattle.ctf_decode.specs.Known.{with_spent}
use Rattle.ctf_packet.specs.Views.{values_of}
use Rattle.ctf_fetch.specs.Headers.{IsHeader, IsHeaded}
use Rattle.ctf_fetch.proofs.Headers.{headed_by}
use Rattle.ctf_fetch.proofs.packet_start.PacketStart.known_header.Goals as goal

pub returns-clause-finds : goal.returns-clause-finds
returns-clause-finds c =
    let cut = c.args.self.now in
    let known = c.in-Some-Some.known in
    let before = c.args.scopes.now in
    let knows = subst (λ o. IfSome o (λ k. IsHeader cut.trace.now k (values_of before).packet_header)) c.in-Some-Some.is-0 c.requires.knows in
    let same = sym c.if-id-reached.true ∙ c.id.ensures in
    let after = c.set_spent.ensures ∙ ap (λ x. with_spent x known.spent) c.leave_packet.ensures in
    let begins = c.is_front_of.ensures c.if-not-is_front_of.false in
    let count = length known.bytes.items in
    let there : min count (length c.args.bytes.now) ≡ count = sym (length-take count c.args.bytes.now) ∙ ap length begins in
    let within = known.within in
    record {
      headed = λ more.
          subst (λ r. IsHeaded cut.shift cut.trace.now r (c.args.bytes.now ++ more) known.found c.set_spent.new.self) (sym c.in-Some-Some.is-1)
          (headed_by cut.trace.now known cut.shift c.in-Some-Some.reached c.args.bytes.now more before c.set_spent.new.self knows same begins after);
      within = omega (arith, there, within);
      near = omega arith;
    }
