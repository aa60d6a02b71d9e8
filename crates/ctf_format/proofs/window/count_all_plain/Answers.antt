use Rattle.std.proofs.Common.{◌≡◌, ◌+◌, ◌-◌, ◌*◌, length, take, subst, arith}
use Rattle.std.specs.List.{All}
use Rattle.ctf_format.proofs.TextLemmas.{IsPlain}
use Rattle.ctf_format.proofs.WindowLemmas.{plain_after, plain_fewer}
use Rattle.ctf_format.proofs.window.count_all_plain.Goals as goal

pub returns-then-count-lt-WINDOW-clause-plain : goal.returns-then-count-lt-WINDOW-clause-plain
returns-then-count-lt-WINDOW-clause-plain c = plain_after c.args.bytes.now (16 * c.loop-i.i) c.count_plain-count.result c.loop-i.invariant c.count_plain-count.ensures.plain

pub loop-i-preserved : goal.loop-i-preserved
loop-i-preserved c =
    let more : 16 * c.loop-i.i + c.count_plain-count.result ≡ 16 * (c.loop-i.i + 1) = omega arith in
    subst (λ n. All IsPlain (take n c.args.bytes.now)) more (plain_after c.args.bytes.now (16 * c.loop-i.i) c.count_plain-count.result c.loop-i.invariant c.count_plain-count.ensures.plain)

pub returns-clause-plain : goal.returns-clause-plain
returns-clause-plain c =
    let last = length c.args.bytes.now - 16 in
    let front = plain_fewer c.args.bytes.now last (16 * c.loop-i.i) (omega arith) c.loop-i.invariant in
    plain_after c.args.bytes.now last c.count_plain.result front c.count_plain.ensures.plain
