use Rattle.std.proofs.Common.{◌≡◌, ◌+◌, ◌*◌, ◌≤◌, ◌∷◌, ◌++◌, codes, length, take, drop, rules, arith, sym, ap, subst, ◌∙◌, append_assoc}
use Rattle.std.specs.Fmt.{decimal}
use Rattle.ctf_class.specs.Integers.{bits_of}
use Rattle.ctf_decode.specs.Forms as forms
use Rattle.ctf_format.specs.Numbers.{number_text}
use Rattle.ctf_format.specs.RunNumbers.{number_at}
use Rattle.ctf_format.specs.Standing.{PutsOne}
use Rattle.ctf_format.specs.Texts.{integer_text}
use Rattle.ctf_format.proofs.ArrayLemmas.{puts_one_element}
use Rattle.ctf_format.proofs.ByteIntegersLemmas.{aligned_integer}
use Rattle.ctf_format.proofs.StandingLemmas.{same_front}
use Rattle.ctf_format.proofs.byte_integers.ByteIntegers.put_element.Goals as goal

pub returns-clause-puts : goal.returns-clause-puts
returns-clause-puts c =
    let are = c.args.self.now in
    let i = are.integer.now in
    let k = forms.integer are.align i in
    let bytes = are.packet.now.bytes.now in
    let content = are.packet.now.end in
    let begin = 8 * c.args.first in
    let end = 8 * (c.args.first + are.step) in
    let items = c.put_index.new.buffer.items in
    let line = c.put_number.new.line in
    let n = c.put_index.new.buffer.len in
    let at = c.in_ok-begin.begin in
    let text = c.put_number.result in
    let long : length line ≡ n = search rules in
    let room : at + 66 ≤ n = search rules in
    let same = same_front text (at + 66) n line items long room c.put_number.ensures.near in
    let after = take text (take n (line ++ drop (length line) items)) in
    let ends : end ≡ begin + bits_of i = omega (arith, are.size) in
    let wrote = c.put_number.ensures.text ∙ ap (λ xs. take at xs ++ number_text i (number_at i bytes begin)) c.as_mut_slice.ensures.value in
    let puts = aligned_integer i are.align bytes content c.args.first end (take at items) (take text line) c.requires.begins ends c.requires.within wrote in
    puts_one_element k (integer_text i) c.args.lead.mark c.args.lead.index bytes content begin end (take c.args.at c.args.buffer.now.items) (take at items) (91 ∷ (decimal c.args.lead.index ++ codes "] = ")) after c.in_ok-begin.ensures.put.text
    (λ v. ap (λ xs. 91 ∷ xs) (sym (append_assoc (decimal c.args.lead.index) (codes "] = ") (integer_text i v))))
    (subst (λ xs. PutsOne k (integer_text i) bytes content begin end (take at items) xs) same puts)
