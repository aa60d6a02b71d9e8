use Rattle.std.proofs.Common.{◌≡◌, ◌*◌, take, sym, ap, ◌∙◌, rules}
use Rattle.std.specs.Int.{next_multiple_of}
use Rattle.ctf_decode.specs.Forms.{align_of}
use Rattle.ctf_decode.specs.Views.{form}
use Rattle.ctf_decode.proofs.Aligns.{align-is}
use Rattle.ctf_format.specs.Texts.{value_text}
use Rattle.ctf_format.proofs.ArrayLemmas.{puts_array}
use Rattle.ctf_format.proofs.structures.put_structures.Goals as goal

pub returns-clause-puts : goal.returns-clause-puts
returns-clause-puts c = λ k is before many a counts.
    let ends = c.in_ok-ends.ends in
    let each = c.args.are.now.count in
    let more = c.in_ok-more.more in
    let sum : more ≡ c.args.count * each = search rules in
    let begin : c.in_ok-place.place ≡ next_multiple_of c.args.from.place (align_of (form k)) = c.in_ok-place.ensures.begin ∙ ap (next_multiple_of c.args.from.place) (is.begins ∙ sym (align-is k)) in
    puts_array before many a (form k) (value_text k) each c.args.packet.now.bytes.now c.args.packet.now.end c.args.from.place c.in_ok-place.place c.args.count more ends.place ends.text (take c.args.from.text c.args.buffer.now.items) (take ends.text c.put_elements.new.buffer.items)
    begin c.in_ok-place.ensures.within sum counts (c.in_ok-ends.ensures.puts k is)
