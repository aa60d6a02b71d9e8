-- What matches give, as what the words give.
use Rattle.std.proofs.Common.{◌≡◌, ◌⊎◌, inl, inr, ℕ, List, [], Result, Ok, Err, MatchResult, sym, subst}
use Rattle.clap.specs.Walk.{Row}
use Rattle.ctf_options.specs.declared.options.Options.{Options}
use Rattle.ctf_options.specs.declared.usage.Usage.{Usage}
use Rattle.ctf_options.specs.declared.usage.Usage.TheVariants.{Bad, NoMemory}
use Rattle.ctf_options.specs.Command.{matches, faults, AreOptions, AreRefused, GivesOptions, IsRefusal}

pub outcome : (words : List (List ℕ)) (rows : List Row) (r : Result Options Usage) → faults words ≡ [] → rows ≡ matches words
    → MatchResult r (AreOptions rows) (λ usage. (usage ≡ NoMemory) ⊎ ((usage ≡ Bad) × AreRefused rows)) → MatchResult r (GivesOptions words) (IsRefusal words)
outcome words rows (Ok options) none e h = (none, subst (λ (rows : List Row). AreOptions rows options) e h)
outcome words rows (Err usage) none e (inl is) = subst (IsRefusal words) (sym is) tt
outcome words rows (Err usage) none e (inr h) = subst (IsRefusal words) (sym h.0) (inr (none, subst AreRefused e h.1))
