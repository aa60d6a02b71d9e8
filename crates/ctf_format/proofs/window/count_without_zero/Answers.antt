use Rattle.std.proofs.Common.{◌≡◌, ◌+◌, ◌-◌, ◌*◌, take, drop, ap, subst, ◌∙◌, arith}
use Rattle.std.proofs.lemmas.List.{take-take}
use Rattle.std.specs.List.{All}
use Rattle.ctf_format.proofs.WindowLemmas.{NotZero, window_more}
use Rattle.ctf_format.proofs.window.count_without_zero.Goals as goal

pub loop-i-preserved : goal.loop-i-preserved
loop-i-preserved c =
    let bytes = c.args.bytes.now in
    let begin = 16 * c.loop-i.i in
    let more : begin + 16 ≡ 16 * (c.loop-i.i + 1) = omega arith in
    let size : begin + 16 - begin ≡ 16 = omega arith in
    let is = ap (λ n. take 16 (take n (drop begin bytes))) size ∙ take-take 16 16 (drop begin bytes) (omega arith) in
    subst (λ n. All NotZero (take n bytes)) more (window_more bytes _ begin c.are.result (omega arith) is c.are.ensures (omega arith) c.loop-i.invariant)
