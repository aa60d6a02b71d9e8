use Rattle.ctf_timestamp.proofs.Putting.{put_both, put_as}
use Rattle.ctf_timestamp.proofs.Groups.{twenty_digits}
use Rattle.ctf_timestamp.proofs.digits.put_twenty.Goals as goal

pub returns-clause-put : goal.returns-clause-put
returns-clause-put c = put_as (put_both (put_both c.put_four-at.ensures c.put_eight-at.ensures) c.put_eight.ensures) (twenty_digits c.args.number)
