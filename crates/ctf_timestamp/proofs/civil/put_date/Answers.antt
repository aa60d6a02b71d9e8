use Rattle.std.proofs.Common.{ap, ◌∙◌, unsigned_abs}
use Rattle.jiff_tz.proofs.YearLemmas.{back_year}
use Rattle.ctf_timestamp.proofs.Putting.{put_both, put_as}
use Rattle.ctf_timestamp.proofs.Shown.{date_same}
use Rattle.ctf_timestamp.specs.Civil.{date_text}
use Rattle.ctf_timestamp.proofs.civil.put_date.Goals as goal

pub returns-clause-put : goal.returns-clause-put
unfolding date_text
returns-clause-put c =
    put_as (put_both (put_both (put_both (put_both c.put_four-at.ensures c.put_byte-at.ensures) c.put_pair-at.ensures) c.put_byte-at-2.ensures) c.put_pair.ensures)
    (date_same _ _ _ _ _ _ (c.from.ensures ∙ c.unsigned_abs.ensures.value ∙ ap unsigned_abs (back_year c.args.date.year c.args.date.year_in)) c.from-2.ensures c.from-3.ensures)
