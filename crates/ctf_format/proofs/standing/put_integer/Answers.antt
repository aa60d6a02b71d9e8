use Rattle.std.proofs.Common.{◌≡◌, ◌++◌, take, rules, refl, sym, ap, ◌∙◌, arith}
use Rattle.std.proofs.lemmas.Bool.{false≢true}
use Rattle.std.specs.Int.{next_multiple_of}
use Rattle.ctf_bits.specs.Number.{number, signed_number}
use Rattle.ctf_class.specs.Integers.{bits_of}
use Rattle.ctf_format.specs.Numbers.{number_text}
use Rattle.ctf_format.proofs.StandingLemmas.{puts_plain, puts_signed, stands_number}
use Rattle.ctf_format.proofs.standing.put_integer.Goals as goal

pub returns-then-is_negative-clause-puts : goal.returns-then-is_negative-clause-puts
returns-then-is_negative-clause-puts c =
    let i = c.args.class.now.integer.now in
    let bytes = c.args.packet.now.bytes.now in
    let bits : c.bits-size.result ≡ bits_of i = grind (arith, c.bits-size.ensures.value, c.bits-size.ensures.positive) in
    let read = c.sint_within-number.ensures ∙ (λ j. signed_number i.order bytes (c.in_ok-at.ensures.begin j) (bits j)) in
    let wrote : take c.put_negative.result c.put_negative.new.line ≡ take c.args.from.text c.args.line.now ++ number_text i c.sint_within-number.result = search rules in
    puts_signed c.args.class.now.align i bytes c.args.packet.now.end c.args.from.place c.in_ok-at.at.end (take c.args.from.text c.args.line.now) (take c.put_negative.result c.put_negative.new.line) (c.if-is_negative.ensures.signed refl)
    c.in_ok-at.ensures.end c.in_ok-at.ensures.within (wrote ∙ ap (λ z. take c.args.from.text c.args.line.now ++ number_text i z) read)

pub returns-then-is_negative-clause-number : goal.returns-then-is_negative-clause-number
returns-then-is_negative-clause-number c signed = absurd (false≢true (sym signed ∙ c.if-is_negative.ensures.signed refl))

pub returns-clause-puts : goal.returns-clause-puts
returns-clause-puts c =
    let i = c.args.class.now.integer.now in
    let bytes = c.args.packet.now.bytes.now in
    let begin = next_multiple_of c.args.from.place c.args.class.now.align in
    let bits : c.bits-size.result ≡ bits_of i = grind (arith, c.bits-size.ensures.value, c.bits-size.ensures.positive) in
    let read = c.uint_within-bits.ensures.value ∙ (λ j. number i.order bytes (c.in_ok-at.ensures.begin j) (bits j)) in
    puts_plain c.args.class.now.align i bytes c.args.packet.now.end c.args.from.place c.in_ok-at.at.end (take c.args.from.text c.args.line.now) (take c.put_unsigned_number.result c.put_unsigned_number.new.line) i.is_signed c.uint_within-bits.result refl
    c.in_ok-at.ensures.end c.in_ok-at.ensures.within read (λ signed. c.if-is_negative.ensures.plain refl signed bytes begin read) c.put_unsigned_number.ensures.text

pub returns-clause-number : goal.returns-clause-number
returns-clause-number c signed =
    let i = c.args.class.now.integer.now in
    let bytes = c.args.packet.now.bytes.now in
    let bits : c.bits-size.result ≡ bits_of i = grind (arith, c.bits-size.ensures.value, c.bits-size.ensures.positive) in
    let read = c.uint_within-bits.ensures.value ∙ (λ j. number i.order bytes (c.in_ok-at.ensures.begin j) (bits j)) in
    stands_number c.args.class.now.align i bytes c.args.packet.now.end c.args.from.place c.uint_within-bits.result signed (omega (arith, c.in_ok-at.ensures.end, c.in_ok-at.ensures.within)) read
