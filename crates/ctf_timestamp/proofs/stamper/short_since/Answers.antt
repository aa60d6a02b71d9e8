use Rattle.std.proofs.Common.{◌≡◌, ◌-ℤ◌, FitsSigned, w64, unsigned_abs, arith}
use Rattle.std.proofs.lemmas.Int.{ints}
use Rattle.ctf_timestamp.proofs.Signs.{since_short}
use Rattle.ctf_timestamp.proofs.stamper.short_since.Goals as goal

pub returns-clause-text : goal.returns-clause-text
returns-clause-text c =
    let fits : FitsSigned w64 c.args.time = c.ranges.time in
    let apart : c.abs_diff-nanos.result ≡ unsigned_abs (c.args.time -ℤ c.in_ok-before.before) = omega (arith, ints) in
    since_short c.args.last c.args.time c.in_ok-before.before c.abs_diff-nanos.result c.in_ok-before.was apart (omega (arith, ints))
