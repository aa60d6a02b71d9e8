use Rattle.std.proofs.Common.{◌∙◌, take, refl, ap}
use Rattle.ctf_decode.specs.Forms as forms
use Rattle.ctf_decode.specs.Views.{form}
use Rattle.ctf_format.specs.Records.{after_members}
use Rattle.ctf_format.specs.Standing.{elements_text}
use Rattle.ctf_format.specs.Texts.{value_text}
use Rattle.std.proofs.Common.{Some}
use Rattle.ctf_format.proofs.ElementsLemmas.{forget}
use Rattle.ctf_format.proofs.ArrayLemmas.{next_class, form_array, text_array}
use Rattle.ctf_format.proofs.planned_record.put_many.Goals as goal

pub returns-clause-puts : goal.returns-clause-puts
returns-clause-puts c = λ index class are.
    let i = c.args.are.now.integer in
    let align = c.args.are.now.align in
    let next = c.in_ok-next.next in
    let bytes = c.args.placed.packet.now.bytes.now in
    let content = c.args.placed.packet.now.end in
    let place = c.args.reach.now.place in
    let line = take c.args.at c.args.buffer.now.items in
    let items = c.put_integers.new.buffer.items in
    let many = are.0 in
    let k = are.2.0 in
    let counts = c.in_ok-count.ensures index many are.1 in
    let before = after_members index counts.0 in
    let puts = c.in_ok-next.ensures.puts before many class.align counts.2 in (
      counts.0,
      counts.1,
      (
        next.more,
        refl,
        forget before (form class) (value_text class) bytes content place line next (take next.text items)
            (next_class (Some next) before (forms.array class.align many (forms.integer align i)) (form class) (elements_text i) (value_text class) bytes content place line items
            (ap (λ a. forms.array class.align many (forms.integer a i)) are.2.2.1 ∙ form_array class k many i are.2.1 are.2.2.0) (text_array class k many i are.2.1 are.2.2.0) puts),
      ),
    )
