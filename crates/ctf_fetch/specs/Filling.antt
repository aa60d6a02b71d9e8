-- What a source gives to the bytes at hand.
use Rattle.std.specs.Prelude.{◌≡◌, ℕ, ◌<◌, List, [], Result, Ok, Err}
use Rattle.ctf_bits.specs.declared.source.Ending.{Ending}
use Rattle.ctf_fetch.specs.declared.buffer.Filled.{Filled}
use Rattle.ctf_fetch.specs.declared.buffer.Filled.TheVariants.{Whole, Ended}

-- as many came as were asked for, or all did that the source had
abbrev pub Fills : {E : Type 0} → Ending → List ℕ → Result Filled E → Type 0
Fills ending rest (Ok Whole) = Unit {0}
Fills ending rest (Ok (Ended e)) = (e ≡ ending) × (rest ≡ [])
Fills ending rest (Err refused) = Unit {0}

-- as many came as were asked for, or the source ended, as far as counts say it
abbrev pub Counts : {E : Type 0} → ℕ → ℕ → Result Filled E → Type 0
Counts target count (Ok Whole) = count ≡ target
Counts target count (Ok (Ended e)) = count < target
Counts target count (Err refused) = Unit {0}
