use Rattle.std.proofs.Common.{◌∷◌, ◌++◌, codes, take, sym, ap, append_assoc}
use Rattle.std.proofs.lemmas.Option.{IfSome_then}
use Rattle.std.specs.Fmt.{decimal}
use Rattle.ctf_decode.specs.Views.{form}
use Rattle.ctf_format.specs.Texts.{value_text}
use Rattle.ctf_format.proofs.Chains.{of_ok}
use Rattle.ctf_format.proofs.ArrayLemmas.{puts_element}
use Rattle.ctf_format.proofs.structures.put_element.Goals as goal

pub returns-clause-puts : goal.returns-clause-puts
returns-clause-puts c = λ k is.
    let text = value_text k in
    let mark = c.args.lead.mark in
    let index = c.args.lead.index in
    let line = take c.in_ok-text.text c.put_index.new.buffer.items in
    let before = take c.args.from.text c.args.buffer.now.items in
    IfSome_then c.put_structure.result (c.put_structure.ensures.puts k is) (λ ends puts.
    puts_element (form k) text c.args.are.now.count mark index c.args.packet.now.bytes.now c.args.packet.now.end c.args.from.place ends.place before line (91 ∷ (decimal index ++ codes "] = ")) (take ends.text c.put_structure.new.buffer.items) (of_ok _ _ c.in_ok-text.ensures.value c.put_index.ensures.put).text (λ v. ap (λ xs. 91 ∷ xs) (sym (append_assoc (decimal index) (codes "] = ") (text v)))) puts)
