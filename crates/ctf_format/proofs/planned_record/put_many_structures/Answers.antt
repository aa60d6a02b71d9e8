use Rattle.std.proofs.Common.{Some, take, refl}
use Rattle.ctf_decode.specs.Forms as forms
use Rattle.ctf_decode.specs.Views.{form}
use Rattle.ctf_format.specs.Records.{after_members}
use Rattle.ctf_format.specs.Standing.{array_text}
use Rattle.ctf_format.specs.Texts.{value_text}
use Rattle.ctf_format.proofs.ElementsLemmas.{forget, form_any, text_any}
use Rattle.ctf_format.proofs.ArrayLemmas.{next_class}
use Rattle.ctf_format.proofs.planned_record.put_many_structures.Goals as goal

pub returns-clause-puts : goal.returns-clause-puts
returns-clause-puts c = λ index class are.
    let next = c.in_ok-next.next in
    let bytes = c.args.placed.packet.now.bytes.now in
    let content = c.args.placed.packet.now.end in
    let place = c.args.reach.now.place in
    let line = take c.args.at c.args.buffer.now.items in
    let items = c.put_structures.new.buffer.items in
    let many = are.0 in
    let k = are.2.0 in
    let counts = c.in_ok-count.ensures index many are.1 in
    let before = after_members index counts.0 in
    let puts = c.in_ok-next.ensures.puts k are.2.2 before many class.align counts.2 in (
      counts.0,
      counts.1,
      (
        next.more,
        refl,
        forget before (form class) (value_text class) bytes content place line next (take next.text items)
            (next_class (Some next) before (forms.array class.align many (form k)) (form class) (array_text (value_text k)) (value_text class) bytes content place line items
            (form_any class many k are.2.1) (text_any class many k are.2.1) puts),
      ),
    )
