-- Instants and civil times in a time zone.
use Rattle.std.specs.Prelude.{◌≡◌, refl, ℤ, ◌+ℤ◌, Option, Some, None, if◌then◌else◌}
use Rattle.jiff_core.specs.Timestamp.{nanos_of_seconds}
use Rattle.jiff_core.specs.declared.civil.datetime.DateTime.{DateTime}
use Rattle.jiff_tz.specs.Ambiguous.{compatible_offset, instant_of}
use Rattle.jiff_tz.specs.Zone.{offset_at, ambiguous_at}
use Rattle.jiff_tz.specs.declared.posix.TimeZone.{TimeZone as Rule}
use Rattle.jiff_tz.specs.declared.timezone.TimeZone.{TimeZone}
use Rattle.jiff_tz.specs.declared.timezone.TimeZone.TheVariants.{UTC, Unknown, Fixed, Posix, Tzif}
use Rattle.ctf_clock.specs.Clock.{fits}

-- the nanoseconds since the start of 1970 that a clock in the zone shows at an instant, by jiff's offset
abbrev pub civil_at : TimeZone → ℤ → ℤ
civil_at zone time = time +ℤ nanos_of_seconds (offset_at zone time)

-- the instant of a civil time, where it is a number of 64 bits. Of jiff's offsets the one before a change of the
-- clock counts: the earlier instant in a fold, the offset before the gap in a gap (own).
abbrev pub instant_in : TimeZone → DateTime → Option ℤ
instant_in zone civil =
    let time = instant_of civil (compatible_offset (ambiguous_at zone civil)) in
    if fits time then Some time else None

-- UTC, or a POSIX rule
abbrev pub IsUtcOrRule : TimeZone → Type 0
IsUtcOrRule UTC = Unit {0}
IsUtcOrRule Unknown = ⊥
IsUtcOrRule (Fixed offset) = ⊥
IsUtcOrRule (Posix rule) = Unit {0}
IsUtcOrRule (Tzif table) = ⊥

-- UTC where there is no rule
abbrev pub zone_of : Option Rule → TimeZone
zone_of None = UTC
zone_of (Some rule) = Posix rule

-- the rule of a zone that is one
abbrev pub rule_of : TimeZone → Option Rule
rule_of UTC = None
rule_of Unknown = None
rule_of (Fixed offset) = None
rule_of (Posix rule) = Some rule
rule_of (Tzif table) = None

-- a rule comes back out of its zone
pub rule_back : (rule : Option Rule) → rule_of (zone_of rule) ≡ rule
rule_back None = refl
rule_back (Some rule) = refl
