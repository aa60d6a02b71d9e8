use Rattle.std.proofs.Common.{◌∙◌, ap, take}
use Rattle.ctf_decode.specs.Forms as forms
use Rattle.ctf_format.specs.Texts.{integer_text}
use Rattle.ctf_format.proofs.BranchesLemmas.{array_counted}
use Rattle.ctf_format.proofs.StandingLemmas.{form_integer, text_integer}
use Rattle.ctf_format.proofs.branches.put_counted_integers.Goals as goal

pub returns-clause-puts : goal.returns-clause-puts
returns-clause-puts c = λ known ns k is.
    let lone = c.args.lone.now in
    let n = c.in_ok-next.next in
    let forms_are = ap (λ a. forms.integer a lone.integer) is.1 ∙ form_integer k lone.integer is.0 in
    array_counted n known ns k (forms.integer lone.align lone.integer) (integer_text lone.integer) c.args.count c.args.from.packet.now c.args.from.place (take c.args.from.text c.args.buffer.now.items) (take n.text c.put_integers.new.buffer.items) forms_are (text_integer k lone.integer is.0) c.in_ok-next.ensures.puts
