-- Civil times and their instants.
use Rattle.std.proofs.Common.{◌≡◌, inl, inr, ℤ, List, ℕ, Option, Some, None, ok_or, refl, MatchResult, IfSome, IsSomeAnd}
use Rattle.jiff_core.specs.declared.civil.datetime.DateTime.{DateTime}
use Rattle.jiff_tz.specs.declared.timezone.TimeZone.{TimeZone}
use Rattle.ctf_timestamp.specs.Zones.{instant_in}
use Rattle.ctf_options.specs.declared.civil.Day.{Day}
use Rattle.ctf_options.specs.declared.civil.TimeOfDay.{TimeOfDay}
use Rattle.ctf_options.specs.declared.usage.Usage.TheVariants.{Bad}
use Rattle.ctf_options.specs.Times.{IsCivil, HasParts, IsInstant, HasNoInstant, Names, NamesNone, civil_in, seconds_in}

-- no such civil time
pub none_there : (zone : TimeZone) (o : Option (Day × TimeOfDay)) → IfSome o (λ civil. IsCivil civil → ⊥) → IfSome o (HasNoInstant zone)
none_there zone None h = tt
none_there zone (Some civil) h = inl h

-- a civil time with these parts, and its instant
pub one_there : (zone : TimeZone) (o : Option (Day × TimeOfDay)) (time : DateTime) (instant : ℤ) → IsSomeAnd o (λ civil. HasParts civil time)
    → instant_in zone time ≡ Some instant → IsSomeAnd o (IsInstant zone instant)
one_there zone None time instant h e = h
one_there zone (Some civil) time instant h e = (time, h, e)

-- the same without an instant
pub none_fits : (zone : TimeZone) (o : Option (Day × TimeOfDay)) (time : DateTime) → IsSomeAnd o (λ civil. HasParts civil time)
    → instant_in zone time ≡ None → IfSome o (HasNoInstant zone)
none_fits zone None time h e = tt
none_fits zone (Some civil) time h e = inr (time, h, e)

-- a civil time has its instant, or none
pub settled : (zone : TimeZone) (text : List ℕ) (time : DateTime) (o : Option ℤ) → seconds_in text ≡ None
    → IsSomeAnd (civil_in text) (λ civil. HasParts civil time) → instant_in zone time ≡ o
    → MatchResult (ok_or o Bad) (Names zone text) (λ usage. (usage ≡ Bad) × NamesNone zone text)
settled zone text time None none parts e = (refl, (none, none_fits zone (civil_in text) time parts e))
settled zone text time (Some instant) none parts e = inr (one_there zone (civil_in text) time instant parts e)
