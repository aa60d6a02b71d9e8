use Rattle.std.proofs.Common.{◌≡◌, ◌+◌, ◌≤◌, ◌∷◌, ◌++◌, codes, length, take, drop, rules, sym, ap, subst, append_assoc}
use Rattle.std.specs.Fmt.{decimal}
use Rattle.ctf_decode.specs.Forms as forms
use Rattle.ctf_format.specs.Standing.{PutsOne}
use Rattle.ctf_format.specs.Texts.{integer_text}
use Rattle.ctf_format.proofs.Chains.{of_ok}
use Rattle.ctf_format.proofs.ArrayLemmas.{puts_one_element}
use Rattle.ctf_format.proofs.StandingLemmas.{same_front}
use Rattle.ctf_format.proofs.array.put_element.Goals as goal

pub returns-clause-puts : goal.returns-clause-puts
returns-clause-puts c =
    let i = c.args.class.now.integer.now in
    let k = forms.integer c.args.class.now.align i in
    let ends = c.in_ok-ends.ends in
    let bytes = c.args.packet.now.bytes.now in
    let content = c.args.packet.now.end in
    let items = c.put_index.new.buffer.items in
    let line = c.put_integer.new.line in
    let n = c.put_index.new.buffer.len in
    let begin = c.in_ok-text.text in
    let long : length line ≡ n = search rules in
    let room : begin + 66 ≤ n = search rules in
    let same = same_front ends.text (begin + 66) n line items long room c.in_ok-ends.ensures.near in
    let puts = subst (λ xs. PutsOne k (integer_text i) bytes content c.args.from.place ends.place (take begin xs) (take ends.text line)) c.as_mut_slice.ensures.value c.in_ok-ends.ensures.puts in
    let after = take ends.text (take n (line ++ drop (length line) items)) in
    puts_one_element k (integer_text i) c.args.lead.mark c.args.lead.index bytes content c.args.from.place ends.place (take c.args.from.text c.args.buffer.now.items) (take begin items) (91 ∷ (decimal c.args.lead.index ++ codes "] = ")) after (of_ok _ _ c.in_ok-text.ensures.value c.put_index.ensures.put).text
    (λ v. ap (λ xs. 91 ∷ xs) (sym (append_assoc (decimal c.args.lead.index) (codes "] = ") (integer_text i v))))
    (subst (λ xs. PutsOne k (integer_text i) bytes content c.args.from.place ends.place (take begin items) xs) same puts)
