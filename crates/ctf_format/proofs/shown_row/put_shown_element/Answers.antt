use Rattle.std.proofs.Common.{take}
use Rattle.ctf_decode.specs.Views.{form}
use Rattle.ctf_format.specs.Branches.{Anywhere}
use Rattle.ctf_format.specs.Records.{after_last}
use Rattle.ctf_format.specs.Texts.{value_text}
use Rattle.ctf_format.specs.declared.standing.Last.TheVariants as lasts
use Rattle.ctf_format.specs.Passing.{next_at}
use Rattle.ctf_format.proofs.BranchesLemmas.{element_puts, next_anywhere, reach_of, where_ends}
use Rattle.ctf_format.proofs.Chains.{of_ok}
use Rattle.ctf_format.proofs.shown_row.put_shown_element.Goals as goal

pub returns-clause-puts : goal.returns-clause-puts
returns-clause-puts c = λ k is.
    let packet = c.args.packet.now in
    let place = c.args.from.place in
    let from = take c.args.from.text c.args.buffer.now.items in
    let line = take c.in_ok-text.text c.put_index.new.buffer.items in
    let n = c.in_ok-next.next in
    let after = take n.text c.put_alone.new.buffer.items in
    let alone = next_anywhere (form k) (value_text k) packet.bytes.now packet.end place line n after (c.in_ok-next.ensures.puts k is (after_last 0 lasts.Unknown)) in
    element_puts Anywhere c.args.lead k packet place from line (next_at (reach_of n)) after (of_ok _ _ c.in_ok-text.ensures.value c.put_index.ensures.put).text (where_ends Anywhere (form k) (value_text k) packet.bytes.now packet.end place line n after alone)
