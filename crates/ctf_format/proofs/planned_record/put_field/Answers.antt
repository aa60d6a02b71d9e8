use Rattle.std.proofs.Common.{◌/◌, ◌-◌, ◌≡◌, ◌+◌, ◌≤◌, ◌∙◌, Some, None, take, refl, sym, ap, subst, arith}
use Rattle.std.proofs.lemmas.Option.{IfSome_then}
use Rattle.ctf_class.specs.Records.{IsShown}
use Rattle.ctf_decode.specs.Forms as forms
use Rattle.ctf_decode.specs.Views.{form}
use Rattle.ctf_format.specs.Records.{PutsField, after_members}
use Rattle.ctf_format.specs.Texts.{enumeration_text, string_text, value_text}
use Rattle.ctf_format.specs.declared.standing.Last.TheVariants as lasts
use Rattle.ctf_format.proofs.ElementsLemmas.{forget, form_enumeration, text_enumeration, writes_as, writes_text}
use Rattle.ctf_format.proofs.RecordsLemmas.{numbers_to, no_number, field_alone, field_next}
use Rattle.ctf_format.proofs.StandingLemmas.{as_one, form_string, form_text, text_string, text_text}
use Rattle.ctf_format.proofs.planned_record.put_field.Goals as goal

pub returns-in_ok-ends-in-String-clause-puts : goal.returns-in_ok-ends-in-String-clause-puts
returns-in_ok-ends-in-String-clause-puts c = λ slot is.
    let class = slot.class in
    let string = subst (IsShown slot.index slot.class) c.in-String.is is.shown in
    let bytes = c.args.placed.packet.now.bytes.now in
    let content = c.args.placed.packet.now.end in
    let begin = c.up-place.result in
    let ends = c.in_ok-ends-in-String.ends in
    let line = take c.put_before-text.result c.put_before-text.new.buffer.items in
    let after = take ends.text c.put_string.new.buffer.items in
    let puts = as_one (forms.string class.align) (form class) string_text (value_text class) bytes content begin ends.place line after after (form_string class string) (text_string class string) refl (c.in_ok-ends-in-String.ensures.puts class.align) in
    let within : begin ≤ content = omega (arith, c.if-place-packet.false) in
    (None, no_number c.args.placed.run.now.numbers bytes ((c.args.placed.end - c.args.placed.run.now.span) / 8), field_alone slot c.args.field.now bytes content begin c.args.reach.now.place c.args.reach.now.more ends.place None (take c.args.at c.args.buffer.now.items) line after is c.up-place.ensures.value within c.put_before-text.ensures.put.text puts)

pub returns-in_default-clause-puts : goal.returns-in_default-clause-puts
returns-in_default-clause-puts c = λ slot is.
    let bytes = c.args.placed.packet.now.bytes.now in
    let content = c.args.placed.packet.now.end in
    let begin = c.up-place.result in
    let to = c.put_other.new.reach in
    let before = take c.args.at c.args.buffer.now.items in
    let line = take c.put_before-text.result c.put_before-text.new.buffer.items in
    let within : begin ≤ content = omega (arith, c.if-place-packet.false) in
    IfSome_then c.put_other.result (c.put_other.ensures.puts slot.index slot.class is.shown) (λ text p.
    let after = take text c.put_other.new.buffer.items in
    let field = field_next slot c.args.field.now bytes content begin c.args.reach.now.place c.args.reach.now.more p.2.0 to.place p.0 before line after is c.up-place.ensures.value within c.put_before-text.ensures.put.text p.2.2 in
    (p.0, p.1, subst (λ n. PutsField slot bytes content (numbers_to c.args.reach.now.place c.args.reach.now.more p.0 before) (numbers_to to.place n None after)) (sym p.2.1) field))

pub returns-in_ok-ends-in-Text-clause-puts : goal.returns-in_ok-ends-in-Text-clause-puts
returns-in_ok-ends-in-Text-clause-puts c = λ slot is.
    let class = slot.class in
    let shown = subst (IsShown slot.index slot.class) c.in-Text.is is.shown in
    let many = shown.0 in
    let bytes = c.args.placed.packet.now.bytes.now in
    let content = c.args.placed.packet.now.end in
    let begin = c.up-place.result in
    let count = c.in_ok-count-in-Text.count in
    let counted = c.in_ok-count-in-Text.ensures slot.index many shown.1 in
    let known = counted.0 in
    let before = after_members slot.index known in
    let ends = c.in_ok-ends-in-Text.ends in
    let line = take c.put_before-text.result c.put_before-text.new.buffer.items in
    let items = c.put_fixed_text.new.buffer.items in
    let text = writes_text before class.align many count c.args.placed.packet.now begin ends line items counted.2 c.in_ok-ends-in-Text.ensures.puts in
    let puts = writes_as (Some (record { place = ends.place; text = ends.text; more = 0; last = lasts.Unknown })) before (forms.text class.align many) (form class) string_text (value_text class) c.args.placed.packet.now begin line items (form_text class many shown.2) (text_text class many shown.2) text in
    let within : begin ≤ content = omega (arith, c.if-place-packet.false) in
    let none : c.args.reach.now.more + 0 ≡ c.args.reach.now.more = omega arith in
    let field = field_next slot c.args.field.now bytes content begin c.args.reach.now.place c.args.reach.now.more 0 ends.place known (take c.args.at c.args.buffer.now.items) line (take ends.text items) is c.up-place.ensures.value within c.put_before-text.ensures.put.text (forget before (form class) (value_text class) bytes content begin line (record { place = ends.place; text = ends.text; more = 0; last = lasts.Unknown }) (take ends.text items) puts) in
    (known, counted.1, subst (λ n. PutsField slot bytes content (numbers_to c.args.reach.now.place c.args.reach.now.more known (take c.args.at c.args.buffer.now.items)) (numbers_to ends.place n None (take ends.text items))) none field)

pub returns-in_ok-next-in-Labelled-clause-puts : goal.returns-in_ok-next-in-Labelled-clause-puts
returns-in_ok-next-in-Labelled-clause-puts c = λ slot is.
    let class = slot.class in
    let e = c.in-Labelled.labelled in
    let i = e.container in
    let ls = c.get-labels.result.now in
    let shown = subst (IsShown slot.index slot.class) c.in-Labelled.is is.shown in
    let bytes = c.args.placed.packet.now.bytes.now in
    let content = c.args.placed.packet.now.end in
    let begin = c.up-place.result in
    let before = after_members slot.index None in
    let next = c.in_ok-next-in-Labelled.next in
    let from = take c.args.at c.args.buffer.now.items in
    let line = take c.put_before-text.result c.put_before-text.new.buffer.items in
    let items = c.put_enumeration.new.buffer.items in
    let forms_are = ap (λ a. forms.enumeration a i) shown.1 ∙ form_enumeration class i e.labels shown.0 in
    let texts_are = ap (enumeration_text i) c.get-labels.ensures ∙ text_enumeration class i e.labels shown.0 in
    let puts = writes_as (Some next) before (forms.enumeration e.align i) (form class) (enumeration_text i ls) (value_text class) c.args.placed.packet.now begin line items forms_are texts_are (c.in_ok-next-in-Labelled.ensures.puts before) in
    let alone : next.more ≡ 0 = c.in_ok-next-in-Labelled.ensures.few in
    let within : begin ≤ content = omega (arith, c.if-place-packet.false) in
    let more = c.args.reach.now.more in
    let none : more + next.more ≡ more = omega (arith, alone) in
    let field = field_next slot c.args.field.now bytes content begin c.args.reach.now.place more next.more next.place None from line (take next.text items) is c.up-place.ensures.value within c.put_before-text.ensures.put.text (forget before (form class) (value_text class) bytes content begin line next (take next.text items) puts) in
    (None, no_number c.args.placed.run.now.numbers bytes ((c.args.placed.end - c.args.placed.run.now.span) / 8), subst (λ n. PutsField slot bytes content (numbers_to c.args.reach.now.place more None from) (numbers_to next.place n None (take next.text items))) none field)
