use Rattle.std.proofs.Common.{◌≡◌, ◌+◌, ◌∙◌, None, take, ap, arith}
use Rattle.std.proofs.lemmas.Option.{IfSome_then}
use Rattle.std.specs.Int.{next_multiple_of}
use Rattle.ctf_decode.specs.Views.{form}
use Rattle.ctf_format.specs.Records.{after_members}
use Rattle.ctf_format.specs.Texts.{value_text}
use Rattle.ctf_format.proofs.Chains.{of_ok}
use Rattle.ctf_format.proofs.RecordsLemmas.{empty_puts}
use Rattle.ctf_format.proofs.StandingLemmas.{puts_next}
use Rattle.ctf_format.proofs.planned_record.put_empty.Goals as goal

pub returns-clause-puts : goal.returns-clause-puts
returns-clause-puts c = λ index class is aligned.
    let bytes = c.args.packet.now.bytes.now in
    let content = c.args.packet.now.end in
    let place = c.args.reach.now.place in
    let end = c.in_ok-reach.field-0 in
    let before = take c.args.at c.args.buffer.now.items in
    let at : end ≡ next_multiple_of place class.align = c.in_ok-reach.ensures.begin ∙ ap (next_multiple_of place) aligned in
    let none : c.args.reach.now.more ≡ c.args.reach.now.more + 0 = omega arith in
    IfSome_then c.ok.result (of_ok _ _ c.ok.ensures.value c.put_nothing.ensures) (λ text put.
    let after = take text c.put_nothing.new.buffer.items in
    let one = empty_puts class bytes content place end before after is at c.in_ok-reach.ensures.within put.text in
    (0, none, puts_next (after_members index None) (form class) (value_text class) bytes content place end 0 before after one))
