-- The options that matches give, part by part.
use Rattle.std.proofs.Common.{◌≡◌, ◌⊎◌, ◌∙◌, inl, inr, arith, codes, List, Option, Some, Result, Ok, Err, MatchResult}
use Rattle.std.specs.Option.{ok_or}
use Rattle.std.specs.Result.{IsErr, IsErrAnd}
use Rattle.jiff_tz.specs.declared.timezone.TimeZone.{TimeZone}
use Rattle.clap.specs.Walk.{Row, first_of}
use Rattle.ctf_options.specs.declared.options.Options.{Options}
use Rattle.ctf_options.specs.declared.usage.Usage.{Usage}
use Rattle.ctf_options.specs.declared.usage.Usage.TheVariants.{Bad, NoMemory}
use Rattle.ctf_options.specs.Asked.{IsNoTrim}
use Rattle.ctf_options.specs.Command.{AreOptions, AreRefused, IsZoneOf}

pub some_of : {T : Type 0} (part : Option T) (usage : Usage) (value : T) → Ok value ≡ ok_or part usage → part ≡ Some value
some_of part usage value e = grind arith

pub no_trim : (rows : List Row) (zone : TimeZone) (r : Result Options Usage) (usage : Usage) → IsErr r × IsErrAnd r (λ told. told ≡ usage)
    → IsZoneOf rows zone → (usage ≡ Bad) × IsNoTrim zone (first_of (codes "begin") rows) (first_of (codes "end") rows) (first_of (codes "timerange") rows)
    → MatchResult r (AreOptions rows) (λ usage. (usage ≡ NoMemory) ⊎ ((usage ≡ Bad) × AreRefused rows))
no_trim rows zone (Ok options) usage h is none = absurd h.1
no_trim rows zone (Err told) usage h is none = inr (h.1 ∙ none.0, inr (inr (inr (inl (zone, is, none.1)))))
