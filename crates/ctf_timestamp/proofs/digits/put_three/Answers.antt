use Rattle.std.proofs.Common.{◌∙◌, arith}
use Rattle.ctf_timestamp.proofs.Putting.{put_as, put_front}
use Rattle.ctf_timestamp.proofs.Groups.{triple_digits, digits_long}
use Rattle.ctf_timestamp.proofs.digits.put_three.Goals as goal

pub returns : goal.returns
returns c =
    put_front _ _ (put_as c.put_bytes.ensures (c.to_le_bytes-digits.ensures ∙ triple_digits c.three_digits.result c.args.number c.requires.three c.three_digits.ensures))
    (omega arith) (omega (arith, digits_long 3 c.args.number))
