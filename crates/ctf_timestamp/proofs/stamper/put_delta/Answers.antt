use Rattle.std.proofs.Common.{◌≡◌, ◌-ℤ◌, FitsSigned, w64, unsigned_abs, arith}
use Rattle.std.proofs.lemmas.Int.{ints}
use Rattle.ctf_timestamp.proofs.Putting.{put_both, put_as}
use Rattle.ctf_timestamp.proofs.Signs.{since_none, since_some}
use Rattle.ctf_timestamp.proofs.stamper.put_delta.Goals as goal

pub returns-in_default-clause-put : goal.returns-in_default-clause-put
returns-in_default-clause-put c = put_as c.put_bytes.ensures (since_none c.args.last c.args.time c.in_default.is)

pub returns-clause-put : goal.returns-clause-put
returns-clause-put c =
    let fits : FitsSigned w64 c.args.time = c.ranges.time in
    let apart : c.abs_diff.result ≡ unsigned_abs (c.args.time -ℤ c.in-Some.before) = omega (arith, ints) in
    put_as (put_both c.put_byte-at.ensures c.put_seconds.ensures.put) (since_some c.args.last c.args.time c.in-Some.before c.abs_diff.result c.in-Some.is apart)
