use Rattle.ctf_timestamp.proofs.Putting.{put_both, put_as}
use Rattle.ctf_timestamp.specs.Civil.{clock_text}
use Rattle.ctf_timestamp.proofs.civil.put_clock.Goals as goal

pub returns-clause-put : goal.returns-clause-put
unfolding clock_text
returns-clause-put c =
    put_as (put_both (put_both (put_both (put_both c.put_pair-at.ensures c.put_byte-at.ensures) c.put_pair-at-2.ensures) c.put_byte-at-2.ensures) c.put_pair.ensures) cc
