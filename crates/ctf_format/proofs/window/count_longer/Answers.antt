use Rattle.std.proofs.Common.{◌≡◌, take, subst, arith}
use Rattle.std.specs.List.{All}
use Rattle.ctf_format.proofs.TextLemmas.{IsPlain}
use Rattle.ctf_format.proofs.WindowLemmas.{plain_after, first_zero_after}
use Rattle.ctf_format.proofs.window.count_longer.Goals as goal

pub returns-clause-first : goal.returns-clause-first
returns-clause-first c =
    let bytes = c.args.bytes.now in
    let whole : c.count_plain.result ≡ 16 = omega arith in
    let front = subst (λ n. All IsPlain (take n bytes)) whole c.count_plain.ensures.plain in
    first_zero_after bytes 16 c.in_ok-rest.rest front c.in_ok-rest.ensures.plain c.in_ok-rest.ensures.first

pub returns-clause-plain : goal.returns-clause-plain
returns-clause-plain c =
    let bytes = c.args.bytes.now in
    let whole : c.count_plain.result ≡ 16 = omega arith in
    let front = subst (λ n. All IsPlain (take n bytes)) whole c.count_plain.ensures.plain in
    plain_after bytes 16 c.in_ok-rest.rest front c.in_ok-rest.ensures.plain
