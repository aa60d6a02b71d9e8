use Rattle.std.proofs.Common.{◌≡◌, ◌+◌, ◌-◌, ◌*◌, ◌/◌, ◌++◌, Some, drop, nat_eq, position, take, ap, refl, sym, ◌∙◌}
use Rattle.std.specs.Int.{next_multiple_of}
use Rattle.ctf_class.specs.Names.{label_text}
use Rattle.ctf_format.proofs.StandingLemmas.{puts_string}
use Rattle.ctf_format.proofs.passed_record.end_of_string.Goals as goal

pub returns-clause-passes : goal.returns-clause-passes
returns-clause-passes c a before =
    let packet = c.args.packet.now.bytes.now in
    let content = c.args.packet.now.end in
    let place = c.args.place in
    let n = c.in_ok-count.count in
    let starts = c.up-begin.ensures.value in
    let left = take ((content - next_multiple_of place 8) / 8) (drop (next_multiple_of place 8 / 8) packet) in
    let bytes : c.bytes_from-bytes.result.now ≡ left = c.bytes_from-bytes.ensures ∙ ap (λ b. take ((content - b) / 8) (drop (b / 8) packet)) starts in
    let first : position (λ x. nat_eq x 0) left ≡ Some n = ap (position (λ x. nat_eq x 0)) (sym bytes) ∙ sym c.in_ok-count.ensures.first in
    let after = before ++ label_text (take n left) in
    (after, puts_string packet content place (c.up-begin.result + 8 * (n + 1)) n before after first (ap (λ b. b + 8 * (n + 1)) starts) refl a)
