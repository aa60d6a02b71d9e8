use Rattle.std.proofs.Common.{◌+◌, ◌*◌, ◌/◌, ◌++◌, drop, nat_eq, not, take, ap, refl, arith}
use Rattle.std.specs.Int.{next_multiple_of}
use Rattle.std.specs.List.{take_while}
use Rattle.ctf_class.specs.Names.{label_text}
use Rattle.ctf_format.proofs.StandingLemmas.{puts_text}
use Rattle.ctf_format.proofs.passed_record.end_of_text.Goals as goal

pub returns-clause-passes : goal.returns-clause-passes
returns-clause-passes c a before =
    let packet = c.args.packet.now.bytes.now in
    let content = c.args.packet.now.end in
    let place = c.args.place in
    let n = c.args.count in
    let after = before ++ label_text (take_while (λ x. not (nat_eq x 0)) (take n (drop (next_multiple_of place 8 / 8) packet))) in
    (after, puts_text packet content place (c.up-begin.result + 8 * n) n before after (ap (λ b. b + 8 * n) c.up-begin.ensures.value) (grind (arith, c.if-count-packet.false, c.if-begin-packet.false)) refl a)
