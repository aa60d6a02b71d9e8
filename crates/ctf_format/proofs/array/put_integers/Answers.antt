use Rattle.std.proofs.Common.{◌≡◌, ◌*◌, take, sym}
use Rattle.std.proofs.Math.Nat.{mul-one}
use Rattle.ctf_decode.specs.Forms as forms
use Rattle.ctf_format.specs.Texts.{integer_text}
use Rattle.ctf_format.proofs.ArrayLemmas.{puts_array}
use Rattle.ctf_format.proofs.array.put_integers.Goals as goal

pub returns-clause-puts : goal.returns-clause-puts
returns-clause-puts c = λ before many a counts.
    let ends = c.in_ok-ends.ends in
    let i = c.args.class.now.integer.now in
    let k = forms.integer c.args.class.now.align i in
    let sum : c.args.count ≡ c.args.count * 1 = sym (mul-one c.args.count) in
    puts_array before many a k (integer_text i) 1 c.args.packet.now.bytes.now c.args.packet.now.end c.args.from.place c.in_ok-place.place c.args.count c.args.count ends.place ends.text (take c.args.from.text c.args.buffer.now.items) (take ends.text c.put_elements.new.buffer.items)
    c.in_ok-place.ensures.begin c.in_ok-place.ensures.within sum counts c.in_ok-ends.ensures.puts
