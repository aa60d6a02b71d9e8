use Rattle.ctf_timestamp.proofs.Putting.{put_both}
use Rattle.ctf_timestamp.proofs.digits.put_fraction.Goals as goal

pub returns : goal.returns
returns c = put_both c.put_byte-at.ensures c.put_nine.ensures
