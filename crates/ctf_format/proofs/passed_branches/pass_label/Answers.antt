use Rattle.std.proofs.Common.{cond, length, pos, ◌≡◌, ◌++◌, ◌∷◌, [], take, refl, subst, rules}
use Rattle.std.proofs.Math.Seq.{take-length}
use Rattle.ctf_bits.specs.Number.{number, signed_number}
use Rattle.ctf_class.specs.Integers.{bits_of}
use Rattle.ctf_decode.specs.Values.{label}
use Rattle.ctf_format.specs.Labels.{labelled_text}
use Rattle.ctf_format.specs.Records.{after_last}
use Rattle.ctf_format.specs.Standing.{ValueIs}
use Rattle.ctf_format.specs.declared.planned_record.Reach.{Reach}
use Rattle.ctf_format.specs.declared.standing.Last.TheVariants as lasts
use Rattle.ctf_format.specs.declared.standing.Next.{Next}
use Rattle.ctf_format.proofs.BranchesLemmas.{label_there, slot_passes}
use Rattle.ctf_format.proofs.ElementsLemmas.{writes_label}
use Rattle.ctf_format.proofs.passed_branches.pass_label.Goals as goal

pub returns-clause-passes : goal.returns-clause-passes
returns-clause-passes c = λ s kept is.
    let labelled = c.args.labelled.now in
    let i = labelled.container in
    let packet = c.args.packet.now in
    let bytes = packet.bytes.now in
    let place = c.args.place in
    let at = c.in_ok-at.at in
    let z = c.number_at-number.result in
    let last = c.label_of.result in
    let ns = c.args.kept.now.numbers in
    let ms = c.push.new.self.numbers in
    let read = subst (λ p. cond i.is_signed (signed_number i.order bytes p (bits_of i)) (pos (number i.order bytes p (bits_of i))) ≡ z) c.in_ok-at.ensures.begin c.number_at-number.ensures in
    let known : ValueIs last (label z) = search rules in
    let to : Reach = record { place = at.end; more = 0 } in
    let keeps : ms ≡ ns ++ last ∷ [] = search rules in
    slot_passes s packet place to ns ms (λ line.
    let items = line ++ labelled_text i labelled.labels z in
    let after = take (length items) items in
    let n : Next = record { place = at.end; text = length items; more = 0; last = last } in
    (after, label_there s labelled packet place n line after ns ms is kept c.requires.start refl keeps (writes_label (after_last 0 lasts.Unknown) labelled.align i labelled.labels packet place at.end (length items) z last line items c.in_ok-at.ensures.end c.in_ok-at.ensures.within read known (take-length items))))
