use Rattle.std.proofs.Common.{◌≡◌, sym, ap, subst, ◌∙◌, take}
use Rattle.ctf_class.specs.Records.{IsShown}
use Rattle.ctf_class.specs.declared.class.Kind as kinds
use Rattle.ctf_decode.specs.Forms as forms
use Rattle.ctf_decode.specs.Views.{form}
use Rattle.ctf_format.specs.Standing.{array_text}
use Rattle.ctf_format.specs.Texts.{enumeration_text, integer_text, string_text, value_text}
use Rattle.ctf_format.proofs.BranchesLemmas.{counts_so}
use Rattle.ctf_format.proofs.ElementsLemmas.{form_any, form_enumeration, text_any, text_enumeration, writes_as}
use Rattle.ctf_format.proofs.StandingLemmas.{form_integer, form_string, form_text, text_integer, text_string, text_text}
use Rattle.ctf_format.proofs.shown_row.put_alone.Goals as goal

pub returns-in-String-clause-puts : goal.returns-in-String-clause-puts
returns-in-String-clause-puts c = λ k shown before.
    let is = subst (IsShown 0 k) c.in-String.is shown in
    writes_as c.put_string_value.result before (forms.string k.align) (form k) string_text (value_text k) c.args.packet.now c.args.from.place (take c.args.from.text c.args.buffer.now.items) c.put_string_value.new.buffer.items (form_string k is) (text_string k is) (c.put_string_value.ensures.puts before k.align)

pub returns-in_ok-fixed_count-in-Text-clause-puts : goal.returns-in_ok-fixed_count-in-Text-clause-puts
returns-in_ok-fixed_count-in-Text-clause-puts c = λ k shown before.
    let is = subst (IsShown 0 k) c.in-Text.is shown in
    let many = is.0 in
    let count = c.in_ok-fixed_count-in-Text.field-0 in
    let counts = counts_so many count before (c.in_ok-fixed_count-in-Text.ensures many is.1) in
    writes_as c.put_text_value.result before (forms.text k.align many) (form k) string_text (value_text k) c.args.packet.now c.args.from.place (take c.args.from.text c.args.buffer.now.items) c.put_text_value.new.buffer.items (form_text k many is.2) (text_text k many is.2) (c.put_text_value.ensures.puts before k.align many counts)

pub returns-in-Integer-clause-puts : goal.returns-in-Integer-clause-puts
returns-in-Integer-clause-puts c = λ k shown before.
    let lone = c.in-Integer.lone in
    let is = subst (IsShown 0 k) c.in-Integer.is shown in
    let forms_are = ap (λ a. forms.integer a lone.integer) is.1 ∙ form_integer k lone.integer is.0 in
    writes_as c.put_one.result before (forms.integer lone.align lone.integer) (form k) (integer_text lone.integer) (value_text k) c.args.packet.now c.args.from.place (take c.args.from.text c.args.buffer.now.items) c.put_one.new.buffer.items forms_are (text_integer k lone.integer is.0) (c.put_one.ensures.puts before)

pub returns-in_ok-fixed_count-in-Integers-clause-puts : goal.returns-in_ok-fixed_count-in-Integers-clause-puts
returns-in_ok-fixed_count-in-Integers-clause-puts c = λ k shown before.
    let are = c.in-Integers.are in
    let is = subst (IsShown 0 k) c.in-Integers.is shown in
    let many = is.0 in
    let e = is.2.0 in
    let integer = is.2.2 in
    let count = c.in_ok-fixed_count-in-Integers.field-0 in
    let counts = counts_so many count before (c.in_ok-fixed_count-in-Integers.ensures many is.1) in
    let inner = ap (λ a. forms.integer a are.integer) integer.1 ∙ form_integer e are.integer integer.0 in
    writes_as c.put_integers.result before (forms.array k.align many (forms.integer are.align are.integer)) (form k) (array_text (integer_text are.integer)) (value_text k) c.args.packet.now c.args.from.place (take c.args.from.text c.args.buffer.now.items) c.put_integers.new.buffer.items (ap (forms.array k.align many) inner ∙ form_any k many e is.2.1) (ap array_text (text_integer e are.integer integer.0) ∙ text_any k many e is.2.1) (c.put_integers.ensures.puts before many k.align counts)

pub returns-in_ok-fixed_count-in-Structures-clause-puts : goal.returns-in_ok-fixed_count-in-Structures-clause-puts
returns-in_ok-fixed_count-in-Structures-clause-puts c = λ k shown before.
    let is = subst (IsShown 0 k) c.in-Structures.is shown in
    let many = is.0 in
    let e = is.2.0 in
    let count = c.in_ok-fixed_count-in-Structures.field-0 in
    let counts = counts_so many count before (c.in_ok-fixed_count-in-Structures.ensures many is.1) in
    writes_as c.put_structures.result before (forms.array k.align many (form e)) (form k) (array_text (value_text e)) (value_text k) c.args.packet.now c.args.from.place (take c.args.from.text c.args.buffer.now.items) c.put_structures.new.buffer.items (form_any k many e is.2.1) (text_any k many e is.2.1) (c.put_structures.ensures.puts e is.2.2 before many k.align counts)

pub returns-in-Labelled-clause-puts : goal.returns-in-Labelled-clause-puts
returns-in-Labelled-clause-puts c = λ k shown before.
    let e = c.in-Labelled.labelled in
    let i = e.container in
    let ls = c.get.result.now in
    let is = subst (IsShown 0 k) c.in-Labelled.is shown in
    let kind : k.kind ≡ kinds.Enumeration i ls = is.0 ∙ ap (kinds.Enumeration i) (sym c.get.ensures) in
    let forms_are = ap (λ a. forms.enumeration a i) is.1 ∙ form_enumeration k i ls kind in
    writes_as c.put_enumeration.result before (forms.enumeration e.align i) (form k) (enumeration_text i ls) (value_text k) c.args.packet.now c.args.from.place (take c.args.from.text c.args.buffer.now.items) c.put_enumeration.new.buffer.items forms_are (text_enumeration k i ls kind) (c.put_enumeration.ensures.puts before)
