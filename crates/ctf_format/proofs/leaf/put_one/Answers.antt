use Rattle.std.proofs.Common.{◌≡◌, ◌+◌, ◌≤◌, ◌++◌, length, take, drop, refl, subst, rules}
use Rattle.ctf_decode.specs.Forms as forms
use Rattle.ctf_format.specs.Standing.{PutsOne}
use Rattle.ctf_format.specs.Texts.{integer_text}
use Rattle.ctf_format.proofs.ElementsLemmas.{writes_number}
use Rattle.ctf_format.proofs.StandingLemmas.{as_one, same_front}
use Rattle.ctf_format.proofs.leaf.put_one.Goals as goal

pub returns-clause-puts : goal.returns-clause-puts
returns-clause-puts c = λ before.
    let i = c.args.class.now.integer.now in
    let align = c.args.class.now.align in
    let ends = c.in_ok-ends.ends in
    let bytes = c.args.packet.now.bytes.now in
    let content = c.args.packet.now.end in
    let place = c.args.from.place in
    let at = c.args.from.text in
    let items = c.args.buffer.now.items in
    let line = c.put_integer.new.line in
    let n = c.args.buffer.now.len in
    let all = take n (line ++ drop (length line) items) in
    let long : length line ≡ n = search rules in
    let room : at + 66 ≤ n = search rules in
    let same = same_front ends.text (at + 66) n line items long room c.in_ok-ends.ensures.near in
    let puts = subst (λ xs. PutsOne (forms.integer align i) (integer_text i) bytes content place ends.place (take at xs) (take ends.text line)) c.as_mut_slice.ensures.value c.in_ok-ends.ensures.puts in
    let one = as_one (forms.integer align i) (forms.integer align i) (integer_text i) (integer_text i) bytes content place ends.place (take at items) (take ends.text line) (take ends.text all) refl refl same puts in
    writes_number before align i ends.bits c.args.packet.now place ends.place ends.text c.number_of.result (take at items) all c.number_of.ensures one c.in_ok-ends.ensures.number
