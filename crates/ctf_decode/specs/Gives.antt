-- A call gives what the function on lists finds, unless memory runs out.
use Rattle.std.specs.Prelude.{◌≡◌, List, [], ◌∷◌, ◌++◌, Result, Ok, Err}
use Rattle.ctf_decode.specs.declared.fault.DecodeFault.{DecodeFault}
use Rattle.ctf_decode.specs.declared.fault.DecodeFault.TheVariants.{ContentEnds, NoOption, TooManyValues, NoMemory}
use Rattle.ctf_decode.specs.declared.place.Cursor.{Cursor}
use Rattle.ctf_decode.specs.declared.place.Stopped.{Stopped}
use Rattle.ctf_decode.specs.Values.{Val}
use Rattle.ctf_decode.specs.Breaks.{Fault, too_many, past, no_option}
use Rattle.ctf_decode.specs.Walk.{Step}

abbrev pub Fails : {A : Type 0} → DecodeFault → Step A → Type 0
Fails (ContentEnds e) step = step ≡ Err (past e)
Fails NoOption step = step ≡ Err no_option
Fails TooManyValues step = step ≡ Err too_many
Fails NoMemory step = Unit {0}

-- what is there is x, and decoding has come so far; or the fault is this
abbrev pub Gives : {A : Type 0} → Result (Unit {0}) Stopped → Cursor → A → Step A → Type 0
Gives (Ok _) at x step = step ≡ Ok (x, at.end, at.spent)
Gives (Err _) at x step = Fails at.fault step

-- the value after others, and decoding has come so far; or the fault is this
abbrev pub GivesNext : Result (Unit {0}) Stopped → Cursor → List Val → List Val → Step Val → Type 0
GivesNext (Ok _) at done all step =
    (v : Val) × (all ≡ done ++ v ∷ []) × (step ≡ Ok (v, at.end, at.spent))
GivesNext (Err _) at done all step = Fails at.fault step

-- the reported fault is there, unless memory ran out
abbrev pub Told : (Fault → Type 0) → DecodeFault → Type 0
Told B (ContentEnds e) = B (past e)
Told B NoOption = B no_option
Told B TooManyValues = B too_many
Told B NoMemory = Unit {0}
