use Rattle.std.proofs.Common.{refl, sym, arith}
use Rattle.ctf_timestamp.proofs.Putting.{put_both, put_as}
use Rattle.ctf_timestamp.proofs.Groups.{split}
use Rattle.ctf_timestamp.proofs.digits.put_eight.Goals as goal

pub returns : goal.returns
returns c = put_as (put_both c.put_four-at.ensures c.put_four.ensures) (sym (split 4 4 10000 c.args.number (omega arith) refl))
