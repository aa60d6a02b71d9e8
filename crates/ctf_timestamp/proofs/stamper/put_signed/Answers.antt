use Rattle.std.proofs.Common.{arith}
use Rattle.std.proofs.lemmas.Int.{ints}
use Rattle.ctf_timestamp.proofs.Putting.{put_both, put_as}
use Rattle.ctf_timestamp.proofs.Signs.{above, below}
use Rattle.ctf_timestamp.proofs.stamper.put_signed.Goals as goal

pub returns-then-time-lt0-clause-put : goal.returns-then-time-lt0-clause-put
returns-then-time-lt0-clause-put c = put_as (put_both c.put_byte-at.ensures c.put_seconds.ensures.put) (below c.args.time _ (omega (arith, ints)) (omega (arith, ints)))

pub returns-clause-put : goal.returns-clause-put
returns-clause-put c = put_as c.put_seconds-2.ensures.put (above c.args.time _ (omega (arith, ints)) (omega (arith, ints)))
