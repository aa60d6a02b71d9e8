-- What the definitions of stamps mean.
use Rattle.std.specs.Prelude.{◌≡◌, ◌<ℤ◌, ◌++◌, codes}
use Rattle.jiff_core.specs.DateTime.{civil_nanos}
use Rattle.jiff_core.specs.declared.Offset.{Offset}
use Rattle.jiff_core.specs.declared.civil.datetime.DateTime.{DateTime}
use Rattle.jiff_tz.specs.Ambiguous.{instant_of}
use Rattle.jiff_tz.specs.Zone.{ambiguous_at}
use Rattle.jiff_tz.specs.declared.ambiguous.AmbiguousOffset.TheVariants.{Fold}
use Rattle.jiff_tz.specs.declared.timezone.TimeZone.{TimeZone}
use Rattle.ctf_timestamp.specs.Civil.{second_of, time_at, date_at, shown_time, shown_date}
use Rattle.ctf_timestamp.specs.Digits.{last_digits}
use Rattle.ctf_timestamp.specs.Stamps.{fraction}
use Rattle.ctf_timestamp.specs.Zones.{IsUtcOrRule}

-- the texts of a civil time by its nanoseconds are those of jiff's civil time with these nanoseconds
pub record ShowsCivilTime (dt : DateTime) : Type 0 where
  pub time : time_at (second_of (civil_nanos dt)) ≡ shown_time dt.time
  pub date : date_at (second_of (civil_nanos dt))
      ≡ shown_date dt.date ++ codes " " ++ shown_time dt.time
  pub nanos : fraction (civil_nanos dt) ≡ codes "." ++ last_digits 9 dt.time.subsec_nanosecond

-- of each
abbrev pub CivilTimesAreShown : Type 0
CivilTimesAreShown = (dt : DateTime) → ShowsCivilTime dt

-- Of the two offsets in a fold the one before the change of the clock is the greater: the instant that counts is the
-- earlier one.
abbrev pub FoldsGiveTheEarlier : Type 0
FoldsGiveTheEarlier =
    (zone : TimeZone) → IsUtcOrRule zone → (civil : DateTime) (before after : Offset)
    → ambiguous_at zone civil ≡ Fold before after
    → instant_of civil before <ℤ instant_of civil after
