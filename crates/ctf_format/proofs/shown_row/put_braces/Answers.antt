use Rattle.std.proofs.Common.{◌≡◌, ◌∙◌, ap, take}
use Rattle.std.specs.Int.{next_multiple_of}
use Rattle.ctf_decode.specs.Views.{form}
use Rattle.ctf_format.specs.Texts.{value_text}
use Rattle.ctf_format.proofs.Chains.{of_ok}
use Rattle.ctf_format.proofs.RecordsLemmas.{empty_puts}
use Rattle.ctf_format.proofs.StandingLemmas.{puts_next}
use Rattle.ctf_format.proofs.shown_row.put_braces.Goals as goal

pub returns-clause-puts : goal.returns-clause-puts
returns-clause-puts c = λ k is aligned before.
    let packet = c.args.packet.now in
    let from = c.args.from.place in
    let end = c.in_ok-place.place in
    let line = take c.args.from.text c.args.buffer.now.items in
    let after = take c.in_ok-text.text c.put_nothing.new.buffer.items in
    let at : end ≡ next_multiple_of from k.align = c.in_ok-place.ensures.begin ∙ ap (next_multiple_of from) aligned in
    puts_next before (form k) (value_text k) packet.bytes.now packet.end from end c.in_ok-text.text line after (empty_puts k packet.bytes.now packet.end from end line after is at c.in_ok-place.ensures.within (of_ok _ _ c.in_ok-text.ensures.value c.put_nothing.ensures).text)
