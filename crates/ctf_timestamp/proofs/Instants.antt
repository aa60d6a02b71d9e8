-- Instants that are not there.
use Rattle.std.proofs.Common.{◌≡◌, true≢false, ℤ, pos, negsuc, Bool, true, false, if◌then◌else◌, Option, Some, None, Result, Ok, Err, refl, sym, ap, subst, ◌∙◌, arith}
use Rattle.std.specs.Result.{result_ok}
use Rattle.std.proofs.lemmas.Int.{ints}
use Rattle.std.proofs.lemmas.Bool.Decides.{nat_tests}
use Rattle.jiff_core.specs.Timestamp.{IsTimestampNanos}
use Rattle.jiff_core.specs.declared.Offset.{Offset}
use Rattle.jiff_core.specs.declared.Timestamp.{Timestamp}
use Rattle.jiff_core.specs.declared.civil.datetime.DateTime.{DateTime}
use Rattle.jiff_core.specs.declared.error.Error.{Error}
use Rattle.jiff_tz.specs.Ambiguous.{IsInstantAt, compatible_offset, instant_of}
use Rattle.jiff_tz.specs.Zone.{ambiguous_at}
use Rattle.jiff_tz.specs.declared.timezone.TimeZone.{TimeZone}
use Rattle.ctf_clock.specs.Clock.{fits}
use Rattle.ctf_timestamp.specs.Zones.{instant_in}

-- a number of 64 bits is an instant of jiff
fits_jiff : (n : ℤ) → fits n ≡ true → IsTimestampNanos n
fits_jiff (pos n) e = grind (arith, ints, nat_tests)
fits_jiff (negsuc n) e = grind (arith, ints, nat_tests)

abbrev instant_at : DateTime → Offset → Option ℤ
instant_at dt offset = if fits (instant_of dt offset) then Some (instant_of dt offset) else None

none_by : (b : Bool) (n : ℤ) → fits n ≡ b → (IsTimestampNanos n → ⊥) → None ≡ (if b then Some n else None)
none_by true n e h = absurd (h (fits_jiff n e))
none_by false n e h = refl

pub no_instant : (zone : TimeZone) (civil dt : DateTime) (offset : Offset) (r : Result Timestamp Error) (f : Error) → IsInstantAt dt offset r → r ≡ Err f → dt ≡ civil
    → offset ≡ compatible_offset (ambiguous_at zone civil) → None ≡ instant_in zone civil
no_instant zone civil dt offset r f i e d o =
    let j = subst (IsInstantAt dt offset) e i in
    let n = instant_of dt offset in
    none_by (fits n) n refl (λ t. true≢false (sym (j.succeeds.1 t))) ∙ (ap (λ k. instant_at k offset) d ∙ ap (instant_at civil) o)

-- the same of a result that has no value
pub no_value : (zone : TimeZone) (civil dt : DateTime) (offset : Offset) (r : Result Timestamp Error) → IsInstantAt dt offset r → None ≡ result_ok r → dt ≡ civil
    → offset ≡ compatible_offset (ambiguous_at zone civil) → None ≡ instant_in zone civil
no_value zone civil dt offset (Ok t) i e d o = absurd cc
no_value zone civil dt offset (Err f) i e d o = no_instant zone civil dt offset (Err f) f i refl d o

-- the value that is there, or another
abbrev value_or : Timestamp → Option Timestamp → Timestamp
value_or u None = u
value_or u (Some t) = t

-- a result that has a value
pub has_value : (r : Result Timestamp Error) (t : Timestamp) → Some t ≡ result_ok r → r ≡ Ok t
has_value (Ok u) t e = ap (λ o. Ok (value_or u o)) (sym e)
has_value (Err f) t e = absurd cc
