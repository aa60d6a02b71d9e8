use Rattle.std.proofs.Common.{◌∙◌}
use Rattle.ctf_timestamp.proofs.Putting.{put_as}
use Rattle.ctf_timestamp.proofs.Groups.{pair_digits}
use Rattle.ctf_timestamp.proofs.digits.put_pair.Goals as goal

pub returns : goal.returns
returns c = put_as c.put_bytes.ensures (c.to_le_bytes-digits.ensures ∙ pair_digits c.two_digits.result c.args.pair c.requires.two c.two_digits.ensures)
