use Rattle.std.proofs.Common.{◌≡◌, ◌+◌, ◌-◌, ◌/◌, ◌^◌, bit_and, ap, sym, ◌∙◌, arith}
use Rattle.std.proofs.lemmas.Nat.{and_mask}
use Rattle.ctf_bits.specs.declared.number.Order.{Order}
use Rattle.ctf_bits.specs.declared.number.Order.TheVariants.{Le, Be}
use Rattle.ctf_bits.specs.Number.{number}
use Rattle.ctf_bits.proofs.Windows.{between-le, between-be}
use Rattle.ctf_bits.proofs.Words.{little_from-number, big_from-number}
use Rattle.ctf_bits.proofs.number.masked_bits.Goals as goal

pub returns-in-Le : goal.returns-in-Le
returns-in-Le c =
    let s = c.args.shift in
    let n = c.args.n in
    let bytes = c.args.bytes.now in
    let whole : s + (n + (64 - (s + n))) ≡ 64 = omega arith in
    let word = c.read_u64.ensures ∙ little_from-number bytes 0 8 (λ j. (c.type_inv.bytes j).fits) ∙ ap (number Le bytes 0) (sym whole) in
    ap (bit_and (c.read_u64.result / 2 ^ s)) c.requires.ones ∙ and_mask (c.read_u64.result / 2 ^ s) n ∙ between-le bytes s n (64 - (s + n)) c.read_u64.result word
    ∙ ap (λ (order : Order). number order bytes s n) (sym c.in-Le.is)

pub returns-in-Be : goal.returns-in-Be
returns-in-Be c =
    let s = c.args.shift in
    let n = c.args.n in
    let bytes = c.args.bytes.now in
    let left = 64 - s - n in
    let whole : s + (n + left) ≡ 64 = omega arith in
    let word = c.read_u64-in-Be.ensures ∙ big_from-number bytes 0 8 (λ j. (c.type_inv.bytes j).fits) ∙ ap (number Be bytes 0) (sym whole) in
    ap (bit_and (c.read_u64-in-Be.result / 2 ^ left)) c.requires.ones ∙ and_mask (c.read_u64-in-Be.result / 2 ^ left) n ∙ between-be bytes s n left c.read_u64-in-Be.result word
    ∙ ap (λ (order : Order). number order bytes s n) (sym c.in-Be.is)
