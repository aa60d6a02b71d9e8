use Rattle.std.proofs.Common.{◌≡◌, ◌≤◌, ap, w64, arith, take, length, ◌∙◌}
use Rattle.std.proofs.lemmas.List.{take-take, length-take-le}
use Rattle.std.proofs.lemmas.Nat.Bits.{bit_at_set_same}
use Rattle.ctf_format.proofs.WindowLemmas.{not_after, unmarked_plain}
use Rattle.ctf_format.proofs.window.count_plain.Goals as goal

pub lowest-requires : goal.lowest-requires
lowest-requires c = (16, bit_at_set_same w64 _ 16 (omega arith))

pub returns-clause-plain : goal.returns-clause-plain
returns-clause-plain c =
    let bytes = c.args.bytes.now in
    let few : c.lowest.result ≤ 16 = not_after _ c.lowest.result 16 (bit_at_set_same w64 _ 16 (omega arith)) c.lowest.ensures in
    let front : take 16 (take 16 bytes) ≡ take 16 bytes = take-take 16 16 bytes (omega arith) in
    unmarked_plain bytes (take 16 (take 16 bytes)) _ _ _ _ _ c.lowest.result front (ap length front ∙ length-take-le 16 bytes c.requires) few c.are_below.ensures c.are.ensures c.are-2.ensures c.are-3.ensures c.lowest.ensures

pub returns-clause-bounded : goal.returns-clause-bounded
returns-clause-bounded c = not_after _ c.lowest.result 16 (bit_at_set_same w64 _ 16 (omega arith)) c.lowest.ensures
