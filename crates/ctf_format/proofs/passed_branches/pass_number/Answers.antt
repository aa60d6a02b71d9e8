use Rattle.std.proofs.Common.{◌≡◌, ◌≤◌, ◌++◌, ◌∷◌, [], refl, sym, subst, rules}
use Rattle.std.specs.Int.{next_multiple_of}
use Rattle.ctf_bits.specs.Number.{number}
use Rattle.ctf_class.specs.Integers.{bits_of}
use Rattle.ctf_decode.specs.Forms as forms
use Rattle.ctf_format.specs.Passing.{Passes}
use Rattle.ctf_format.specs.Records.{after_last}
use Rattle.ctf_format.specs.Standing.{PutsOne}
use Rattle.ctf_format.specs.Texts.{integer_text}
use Rattle.ctf_format.specs.declared.planned_record.Reach.{Reach}
use Rattle.ctf_format.specs.declared.standing.Last.TheVariants as lasts
use Rattle.ctf_format.specs.declared.standing.Next.{Next}
use Rattle.ctf_format.proofs.BranchesLemmas.{number_there, slot_passes}
use Rattle.ctf_format.proofs.PassingLemmas.{integer_passes}
use Rattle.ctf_format.proofs.StandingLemmas.{puts_next, standing_next, stands_number}
use Rattle.ctf_format.proofs.passed_branches.pass_number.Goals as goal

pub returns-clause-passes : goal.returns-clause-passes
returns-clause-passes c = λ s kept is.
    let lone = c.args.lone.now in
    let i = lone.integer in
    let a = lone.align in
    let k = forms.integer a i in
    let shown = integer_text i in
    let packet = c.args.packet.now in
    let bytes = packet.bytes.now in
    let place = c.args.place in
    let at = c.in_ok-at.at in
    let count = c.uint_within-number.result in
    let ns = c.args.kept.now.numbers in
    let ms = c.push.new.self.numbers in
    let ends = c.in_ok-at.ensures.end in
    let within = subst (λ n. n ≤ packet.end) ends c.in_ok-at.ensures.within in
    let read : count ≡ number i.order bytes (next_multiple_of place a) (bits_of i) = search rules in
    let stands = stands_number a i bytes packet.end place count c.requires.plain within read in
    let to : Reach = record { place = at.end; more = 0 } in
    let n : Next = record { place = at.end; text = 0; more = 0; last = lasts.Unsigned count } in
    let before = after_last 0 lasts.Unknown in
    let keeps : ms ≡ ns ++ lasts.Unsigned count ∷ [] = search rules in
    slot_passes s packet place to ns ms (λ line.
    let one = subst (λ e. Passes (PutsOne k shown bytes packet.end place e)) (sym ends) (integer_passes i a shown bytes packet.end place within) line in
    (one.0, number_there s lone packet place n line one.0 ns ms is kept c.requires.start refl keeps (standing_next (lasts.Unsigned count) before k shown bytes packet.end place at.end 0 0 line one.0 (puts_next before k shown bytes packet.end place at.end 0 line one.0 one.1) stands)))
