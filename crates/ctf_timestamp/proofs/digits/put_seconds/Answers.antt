use Rattle.std.proofs.Common.{◌/◌, ◌%◌, [], ◌∷◌, sym, append_assoc}
use Rattle.std.specs.Fmt.{decimal}
use Rattle.ctf_timestamp.proofs.Putting.{put_both, put_as}
use Rattle.ctf_timestamp.specs.Digits.{last_digits, seconds_text}
use Rattle.ctf_timestamp.proofs.digits.put_seconds.Goals as goal

pub returns-clause-put : goal.returns-clause-put
unfolding seconds_text
returns-clause-put c =
    put_as (put_both c.put_decimal-at.ensures.put c.put_fraction.ensures)
    (sym (append_assoc (decimal (c.args.nanos / 1000000000)) (46 ∷ []) (last_digits 9 (c.args.nanos % 1000000000))))
