use Rattle.std.proofs.Common.{◌≡◌, ◌≤◌, ◌∷◌, ◌++◌, [], refl, sym, ap, subst, ◌∙◌}
use Rattle.std.specs.Int.{next_multiple_of}
use Rattle.ctf_class.specs.Records.{IsShown}
use Rattle.ctf_decode.specs.Forms as forms
use Rattle.ctf_decode.specs.Views.{form}
use Rattle.ctf_format.specs.Passing.{Passes}
use Rattle.ctf_format.specs.Standing.{PutsOne}
use Rattle.ctf_format.specs.Texts.{string_text, value_text}
use Rattle.ctf_format.proofs.BranchesLemmas.{counts_so, one_passes}
use Rattle.ctf_format.proofs.ElementsLemmas.{form_enumeration}
use Rattle.ctf_format.proofs.PassingLemmas.{class_passes, counted_passes, enumeration_passes, fixed_passes, integer_element, integer_passes}
use Rattle.ctf_format.proofs.RecordsLemmas.{empty_puts}
use Rattle.ctf_format.proofs.StandingLemmas.{form_integer, form_string, text_string}
use Rattle.ctf_format.proofs.passed_row.pass_alone.Goals as goal

pub returns-in_ok-end-in-String-clause-passes : goal.returns-in_ok-end-in-String-clause-passes
returns-in_ok-end-in-String-clause-passes c = λ k shown.
    let is = subst (IsShown 0 k) c.in-String.is shown in
    let packet = c.args.packet.now in
    let end = c.in_ok-end-in-String.end in
    one_passes k packet c.args.place end (class_passes (forms.string k.align) (form k) string_text (value_text k) packet.bytes.now packet.end c.args.place end (form_string k is) (text_string k is) (c.in_ok-end-in-String.ensures.passes k.align))

pub returns-in_ok-end-in-Text-clause-passes : goal.returns-in_ok-end-in-Text-clause-passes
returns-in_ok-end-in-Text-clause-passes c = λ k shown before.
    let is = subst (IsShown 0 k) c.in-Text.is shown in
    let packet = c.args.packet.now in
    let many = is.0 in
    let count = c.in_ok-fixed_count-in-Text.field-0 in
    let counts = counts_so many count before (c.in_ok-fixed_count-in-Text.ensures many is.1) in
    counted_passes k many before count packet.bytes.now packet.end c.args.place c.in_ok-end-in-Text.end is.2 counts c.in_ok-end-in-Text.ensures.passes

pub returns-in_ok-end-in-Empty-clause-passes : goal.returns-in_ok-end-in-Empty-clause-passes
returns-in_ok-end-in-Empty-clause-passes c = λ k shown.
    let is = subst (IsShown 0 k) c.in-Empty.is shown in
    let packet = c.args.packet.now in
    let end = c.in_ok-end-in-Empty.end in
    let at : end ≡ next_multiple_of c.args.place k.align = c.in_ok-end-in-Empty.ensures.begin ∙ ap (next_multiple_of c.args.place) is.1 in
    one_passes k packet c.args.place end (λ line. (line ++ (123 ∷ 32 ∷ 125 ∷ []), empty_puts k packet.bytes.now packet.end c.args.place end line (line ++ (123 ∷ 32 ∷ 125 ∷ [])) is.0 at c.in_ok-end-in-Empty.ensures.within refl))

pub returns-in_ok-bits_at-in-Integer-clause-passes : goal.returns-in_ok-bits_at-in-Integer-clause-passes
returns-in_ok-bits_at-in-Integer-clause-passes c = λ k shown.
    let lone = c.in-Integer.lone in
    let i = lone.integer in
    let is = subst (IsShown 0 k) c.in-Integer.is shown in
    let packet = c.args.packet.now in
    let bytes = packet.bytes.now in
    let place = c.args.place in
    let at = c.in_ok-bits_at-in-Integer.field-0 in
    let ends = c.in_ok-bits_at-in-Integer.ensures.end in
    let within = subst (λ n. n ≤ packet.end) ends c.in_ok-bits_at-in-Integer.ensures.within in
    let there = subst (λ n. Passes (PutsOne (forms.integer lone.align i) (value_text k) bytes packet.end place n)) (sym ends) (integer_passes i lone.align (value_text k) bytes packet.end place within) in
    one_passes k packet place at.end (class_passes (forms.integer lone.align i) (form k) (value_text k) (value_text k) bytes packet.end place at.end (ap (λ a. forms.integer a i) is.1 ∙ form_integer k i is.0) refl there)

pub returns-in-Integers-clause-passes : goal.returns-in-Integers-clause-passes
returns-in-Integers-clause-passes c = λ k shown.
    let are = c.in-Integers.are in
    let is = subst (IsShown 0 k) c.in-Integers.is shown in
    let packet = c.args.packet.now in
    let count = c.in_ok-count-in-Integers.count in
    let e = c.element_of.result in
    let element = integer_element packet e are.integer are.align is.2.0 is.2.2 c.element_of.ensures.align c.element_of.ensures.span c.element_of.ensures.count in
    fixed_passes c.pass_counted.result packet e count c.args.place k is.2.0 is.0 is.2.1 element (c.in_ok-count-in-Integers.ensures is.0 is.1) c.pass_counted.ensures.passes

pub returns-in-Structures-clause-passes : goal.returns-in-Structures-clause-passes
returns-in-Structures-clause-passes c = λ k shown.
    let is = subst (IsShown 0 k) c.in-Structures.is shown in
    let packet = c.args.packet.now in
    let count = c.in_ok-count-in-Structures.count in
    let e = c.in_ok-structure_as_element-in-Structures.field-0 in
    let element = c.in_ok-structure_as_element-in-Structures.ensures packet is.2.0 is.2.2 in
    fixed_passes c.pass_counted-in-Structures.result packet e count c.args.place k is.2.0 is.0 is.2.1 element (c.in_ok-count-in-Structures.ensures is.0 is.1) c.pass_counted-in-Structures.ensures.passes

pub returns-in_ok-end-in-Labelled-clause-passes : goal.returns-in_ok-end-in-Labelled-clause-passes
returns-in_ok-end-in-Labelled-clause-passes c = λ k shown.
    let e = c.in-Labelled.labelled in
    let i = e.container in
    let is = subst (IsShown 0 k) c.in-Labelled.is shown in
    let packet = c.args.packet.now in
    let bytes = packet.bytes.now in
    let place = c.args.place in
    let at = c.in_ok-end-in-Labelled.field-0 in
    let ends = c.in_ok-end-in-Labelled.ensures.end in
    let within = subst (λ n. n ≤ packet.end) ends c.in_ok-end-in-Labelled.ensures.within in
    let there = subst (λ n. Passes (PutsOne (forms.enumeration e.align i) (value_text k) bytes packet.end place n)) (sym ends) (enumeration_passes i e.align (value_text k) bytes packet.end place within) in
    one_passes k packet place at.end (class_passes (forms.enumeration e.align i) (form k) (value_text k) (value_text k) bytes packet.end place at.end (ap (λ a. forms.enumeration a i) is.1 ∙ form_enumeration k i e.labels is.0) refl there)
