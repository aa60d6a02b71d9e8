use Rattle.std.proofs.Common.{◌+◌, ◌*◌, ◌/◌, ◌++◌, take, drop, not, nat_eq, ap, sym, ◌∙◌, arith}
use Rattle.std.specs.List.{take_while}
use Rattle.ctf_class.specs.Names.{label_text}
use Rattle.ctf_format.proofs.Chains.{of_ok}
use Rattle.ctf_format.proofs.StandingLemmas.{puts_text}
use Rattle.ctf_format.proofs.WindowLemmas.{before_first_zero}
use Rattle.ctf_format.proofs.standing.put_fixed_text.Goals as goal

pub returns-clause-puts : goal.returns-clause-puts
returns-clause-puts c a =
    let packet = c.args.packet.now.bytes.now in
    let content = c.args.packet.now.end in
    let n = c.args.count in
    let before = take c.args.from.text c.args.buffer.now.items in
    let after = take c.in_ok-text.text c.put_longer_text.new.buffer.items in
    let bytes = ap (take_while (λ x. not (nat_eq x 0))) (c.bytes_at-bytes.ensures ∙ ap (λ m. take n (drop (m / 8) packet)) c.up-begin.ensures.value) in
    puts_text packet content c.args.from.place (c.up-begin.result + 8 * n) n before after (ap (λ m. m + 8 * n) c.up-begin.ensures.value) (grind (arith, c.if-count-packet.false, c.if-begin-packet.false))
    ((of_ok _ _ c.in_ok-text.ensures.value c.put_longer_text.ensures).text ∙ ap (λ xs. before ++ label_text xs) bytes) a

pub returns-in-Some-clause-puts : goal.returns-in-Some-clause-puts
returns-in-Some-clause-puts c a =
    let packet = c.args.packet.now.bytes.now in
    let content = c.args.packet.now.end in
    let n = c.args.count in
    let before = take c.args.from.text c.args.buffer.now.items in
    let after = take c.put_short.result c.put_short.new.buffer.items in
    let bytes = c.bytes_at-bytes.ensures ∙ ap (λ m. take n (drop (m / 8) packet)) c.up-begin.ensures.value in
    let shown = sym (before_first_zero c.bytes_at-bytes.result.now c.in-Some.short c.in-Some.ensures.first) ∙ ap (take_while (λ x. not (nat_eq x 0))) bytes in
    puts_text packet content c.args.from.place (c.up-begin.result + 8 * n) n before after (ap (λ m. m + 8 * n) c.up-begin.ensures.value) (grind (arith, c.if-count-packet.false, c.if-begin-packet.false))
    (c.put_short.ensures.text ∙ ap (λ xs. before ++ label_text xs) shown) a
