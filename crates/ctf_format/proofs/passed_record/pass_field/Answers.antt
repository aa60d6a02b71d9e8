use Rattle.std.proofs.Common.{◌≡◌, ◌+◌, ◌-◌, ◌/◌, ◌≤◌, ◌∷◌, ◌++◌, [], ◌∙◌, None, refl, sym, ap, subst, arith}
use Rattle.std.specs.Int.{next_multiple_of}
use Rattle.std.proofs.lemmas.Option.{IfSome_then}
use Rattle.ctf_class.specs.Records.{IsInteger, IsShown, IsStructure}
use Rattle.ctf_decode.specs.Forms as forms
use Rattle.ctf_decode.specs.Views.{form}
use Rattle.ctf_format.specs.Passing.{IsElement, Passes}
use Rattle.ctf_format.specs.Records.{PutsField, after_members}
use Rattle.ctf_format.specs.Standing.{PutsOne}
use Rattle.ctf_format.specs.Texts.{string_text, value_text}
use Rattle.ctf_format.proofs.ElementsLemmas.{form_enumeration}
use Rattle.ctf_format.proofs.PassingLemmas.{integer_passes, alone_passes, class_passes, counted_passes, enumeration_passes, integer_element, many_so, next_passes, other_passes}
use Rattle.ctf_format.proofs.RecordsLemmas.{empty_puts, numbers_to, no_number}
use Rattle.ctf_format.proofs.StandingLemmas.{form_integer, form_string, text_string}
use Rattle.ctf_format.proofs.passed_record.pass_field.Goals as goal

pub returns-in_ok-end-in-String-clause-passes : goal.returns-in_ok-end-in-String-clause-passes
returns-in_ok-end-in-String-clause-passes c = λ slot is before.
    let class = slot.class in
    let string = subst (IsShown slot.index slot.class) c.in-String.is is.shown in
    let placed = c.args.placed in
    let bytes = placed.packet.now.bytes.now in
    let content = placed.packet.now.end in
    let begin = c.in_ok-place.place in
    let end = c.in_ok-end-in-String.end in
    let passes = class_passes (forms.string class.align) (form class) string_text (value_text class) bytes content begin end (form_string class string) (text_string class string) (c.in_ok-end-in-String.ensures.passes class.align) in
    let p = alone_passes slot c.args.field.now bytes content begin c.args.from.place c.args.from.more end None is c.in_ok-place.ensures.begin c.in_ok-place.ensures.within passes before in
    (p.0, (None, no_number placed.run.now.numbers bytes ((placed.end - placed.run.now.span) / 8), p.1))

pub returns-in_ok-end-in-Text-clause-passes : goal.returns-in_ok-end-in-Text-clause-passes
returns-in_ok-end-in-Text-clause-passes c = λ slot is before.
    let shown = subst (IsShown slot.index slot.class) c.in-Text.is is.shown in
    let placed = c.args.placed in
    let bytes = placed.packet.now.bytes.now in
    let content = placed.packet.now.end in
    let begin = c.in_ok-place.place in
    let end = c.in_ok-end-in-Text.end in
    let count = c.in_ok-count-in-Text.count in
    let counted = c.in_ok-count-in-Text.ensures slot.index shown.0 shown.1 in
    let known = counted.0 in
    let more = c.args.from.more in
    let passes = counted_passes slot.class shown.0 (after_members slot.index known) count bytes content begin end shown.2 counted.2 c.in_ok-end-in-Text.ensures.passes in
    let p = next_passes slot c.args.field.now bytes content begin c.args.from.place more 0 end known is c.in_ok-place.ensures.begin c.in_ok-place.ensures.within passes before in
    let none : more + 0 ≡ more = omega arith in
    (p.0, (known, counted.1, subst (λ n. PutsField slot bytes content (numbers_to c.args.from.place more known before) (numbers_to end n None p.0)) none p.1))

pub returns-in_ok-end-in-Empty-clause-passes : goal.returns-in_ok-end-in-Empty-clause-passes
returns-in_ok-end-in-Empty-clause-passes c = λ slot is before.
    let class = slot.class in
    let bare = subst (IsShown slot.index slot.class) c.in-Empty.is is.shown in
    let placed = c.args.placed in
    let bytes = placed.packet.now.bytes.now in
    let content = placed.packet.now.end in
    let begin = c.in_ok-place.place in
    let end = c.in_ok-end-in-Empty.end in
    let at : end ≡ next_multiple_of begin class.align = c.in_ok-end-in-Empty.ensures.begin ∙ ap (next_multiple_of begin) bare.1 in
    let passes : Passes (PutsOne (form class) (value_text class) bytes content begin end) = λ line. (line ++ (123 ∷ 32 ∷ 125 ∷ []), empty_puts class bytes content begin end line (line ++ (123 ∷ 32 ∷ 125 ∷ [])) bare.0 at c.in_ok-end-in-Empty.ensures.within refl) in
    let p = alone_passes slot c.args.field.now bytes content begin c.args.from.place c.args.from.more end None is c.in_ok-place.ensures.begin c.in_ok-place.ensures.within passes before in
    (p.0, (None, no_number placed.run.now.numbers bytes ((placed.end - placed.run.now.span) / 8), p.1))

pub returns-in_ok-at-in-Integer-clause-passes : goal.returns-in_ok-at-in-Integer-clause-passes
returns-in_ok-at-in-Integer-clause-passes c = λ slot is before.
    let class = slot.class in
    let lone = c.in-Integer.lone in
    let i = lone.integer in
    let shown = subst (IsShown slot.index slot.class) c.in-Integer.is is.shown in
    let placed = c.args.placed in
    let bytes = placed.packet.now.bytes.now in
    let content = placed.packet.now.end in
    let begin = c.in_ok-place.place in
    let end = c.in_ok-at-in-Integer.at.end in
    let forms_are = ap (λ a. forms.integer a i) shown.1 ∙ form_integer class i shown.0 in
    let ends = c.in_ok-at-in-Integer.ensures.end in
    let within = subst (λ n. n ≤ content) ends c.in_ok-at-in-Integer.ensures.within in
    let there = subst (λ n. Passes (PutsOne (forms.integer lone.align i) (value_text class) bytes content begin n)) (sym ends) (integer_passes i lone.align (value_text class) bytes content begin within) in
    let passes = class_passes (forms.integer lone.align i) (form class) (value_text class) (value_text class) bytes content begin end forms_are refl there in
    let p = alone_passes slot c.args.field.now bytes content begin c.args.from.place c.args.from.more end None is c.in_ok-place.ensures.begin c.in_ok-place.ensures.within passes before in
    (p.0, (None, no_number placed.run.now.numbers bytes ((placed.end - placed.run.now.span) / 8), p.1))

pub returns-in_ok-at-in-Labelled-clause-passes : goal.returns-in_ok-at-in-Labelled-clause-passes
returns-in_ok-at-in-Labelled-clause-passes c = λ slot is before.
    let class = slot.class in
    let e = c.in-Labelled.labelled in
    let i = e.container in
    let shown = subst (IsShown slot.index slot.class) c.in-Labelled.is is.shown in
    let placed = c.args.placed in
    let bytes = placed.packet.now.bytes.now in
    let content = placed.packet.now.end in
    let begin = c.in_ok-place.place in
    let end = c.in_ok-at-in-Labelled.at.end in
    let forms_are = ap (λ a. forms.enumeration a i) shown.1 ∙ form_enumeration class i e.labels shown.0 in
    let ends = c.in_ok-at-in-Labelled.ensures.end in
    let within = subst (λ n. n ≤ content) ends c.in_ok-at-in-Labelled.ensures.within in
    let there = subst (λ n. Passes (PutsOne (forms.enumeration e.align i) (value_text class) bytes content begin n)) (sym ends) (enumeration_passes i e.align (value_text class) bytes content begin within) in
    let passes = class_passes (forms.enumeration e.align i) (form class) (value_text class) (value_text class) bytes content begin end forms_are refl there in
    let p = alone_passes slot c.args.field.now bytes content begin c.args.from.place c.args.from.more end None is c.in_ok-place.ensures.begin c.in_ok-place.ensures.within passes before in
    (p.0, (None, no_number placed.run.now.numbers bytes ((placed.end - placed.run.now.span) / 8), p.1))

pub returns-in-Integers-clause-passes : goal.returns-in-Integers-clause-passes
returns-in-Integers-clause-passes c = λ slot is.
    let are = c.in-Integers.are in
    let shown = subst (IsShown slot.index slot.class) c.in-Integers.is is.shown in
    let placed = c.args.placed in
    let e = c.element_of.result in
    let many = many_so (λ k. IsInteger k are.integer are.align) (IsElement placed.packet.now e) (λ k k_is. integer_element placed.packet.now e are.integer are.align k k_is c.element_of.ensures.align c.element_of.ensures.span c.element_of.ensures.count) slot.index slot.class are.many shown in
    IfSome_then c.pass_elements.result (c.pass_elements.ensures.passes slot.index slot.class many) (λ to passes. other_passes slot c.args.field.now placed c.args.from c.in_ok-place.place to is c.in_ok-place.ensures.begin c.in_ok-place.ensures.within passes)

pub returns-in_ok-element-in-Structures-clause-passes : goal.returns-in_ok-element-in-Structures-clause-passes
returns-in_ok-element-in-Structures-clause-passes c = λ slot is.
    let are = c.in-Structures.are in
    let shown = subst (IsShown slot.index slot.class) c.in-Structures.is is.shown in
    let placed = c.args.placed in
    let e = c.in_ok-element-in-Structures.element in
    let many = many_so (λ k. IsStructure k are) (IsElement placed.packet.now e) (λ k k_is. c.in_ok-element-in-Structures.ensures placed.packet.now k k_is) slot.index slot.class are.many shown in
    IfSome_then c.pass_elements-in-Structures.result (c.pass_elements-in-Structures.ensures.passes slot.index slot.class many) (λ to passes. other_passes slot c.args.field.now placed c.args.from c.in_ok-place.place to is c.in_ok-place.ensures.begin c.in_ok-place.ensures.within passes)
