use Rattle.ctf_timestamp.proofs.Putting.{put_both, put_as}
use Rattle.ctf_timestamp.proofs.Groups.{nine_digits}
use Rattle.ctf_timestamp.proofs.digits.put_nine.Goals as goal

pub returns : goal.returns
returns c = put_as (put_both (put_both c.put_three-at.ensures c.put_three-at-2.ensures) c.put_three.ensures) (nine_digits c.args.number)
