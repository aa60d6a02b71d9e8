use Rattle.std.proofs.Common.{◌≡◌, ◌+◌, ◌≤◌, ◌++◌, ◌∙◌, None, length, take, drop, ap, subst, rules, arith}
use Rattle.ctf_decode.specs.Forms as forms
use Rattle.ctf_decode.specs.Views.{form}
use Rattle.ctf_format.specs.Records.{after_members}
use Rattle.ctf_format.specs.Standing.{PutsOne}
use Rattle.ctf_format.specs.Texts.{integer_text, value_text}
use Rattle.ctf_format.proofs.StandingLemmas.{as_one, same_front, puts_next, form_integer, text_integer}
use Rattle.ctf_format.proofs.planned_record.put_lone.Goals as goal

pub returns-clause-puts : goal.returns-clause-puts
returns-clause-puts c = λ index class is.
    let i = c.args.lone.now.integer in
    let align = c.args.lone.now.align in
    let ends = c.in_ok-ends.ends in
    let bytes = c.args.packet.now.bytes.now in
    let content = c.args.packet.now.end in
    let place = c.args.reach.now.place in
    let items = c.args.buffer.now.items in
    let line = c.put_integer.new.line in
    let n = c.args.buffer.now.len in
    let at = c.args.at in
    let all = take n (line ++ drop (length line) items) in
    let long : length line ≡ n = search rules in
    let room : at + 66 ≤ n = search rules in
    let same = same_front ends.text (at + 66) n line items long room c.in_ok-ends.ensures.near in
    let puts = subst (λ xs. PutsOne (forms.integer align i) (integer_text i) bytes content place ends.place (take at xs) (take ends.text line)) c.as_mut_slice.ensures.value c.in_ok-ends.ensures.puts in
    let one = as_one (forms.integer align i) (form class) (integer_text i) (value_text class) bytes content place ends.place (take at items) (take ends.text line) (take ends.text all) (ap (λ a. forms.integer a i) is.1 ∙ form_integer class i is.0) (text_integer class i is.0) same puts in
    let none : c.args.reach.now.more ≡ c.args.reach.now.more + 0 = omega arith in
    (0, none, puts_next (after_members index None) (form class) (value_text class) bytes content place ends.place 0 (take at items) (take ends.text all) one)
