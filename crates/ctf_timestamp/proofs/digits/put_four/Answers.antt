use Rattle.std.proofs.Common.{refl, sym, arith}
use Rattle.ctf_timestamp.proofs.Putting.{put_both, put_as}
use Rattle.ctf_timestamp.proofs.Groups.{split}
use Rattle.ctf_timestamp.proofs.digits.put_four.Goals as goal

pub returns : goal.returns
returns c = put_as (put_both c.put_pair-at.ensures c.put_pair.ensures) (sym (split 2 2 100 c.args.number (omega arith) refl))
