-- What a function of the parser returns, beside what reading gives.
use Rattle.std.specs.Prelude.{◌≡◌, Result, Ok, Err}
use Rattle.tsdl_grammar.specs.Steps.{Refusal, bad, deep}
use Rattle.tsdl_parse.specs.declared.failure.Failure.{Failure}
use Rattle.tsdl_parse.specs.declared.failure.Failure.TheVariants as failure

abbrev pub Fails : {Y : Type 0} → Failure → Result Y Refusal → Type 0
Fails failure.NoMemory read = Unit {0}
Fails (failure.Syntax left) read = read ≡ Err bad
Fails failure.Deep read = read ≡ Err deep

-- the same value as the view sees it, or the same refusal, unless an allocation failed
abbrev pub Gives : {X Y : Type 0} → (X → Y) → Result X Failure → Result Y Refusal → Type 0
Gives view (Ok x) read = read ≡ Ok (view x)
Gives view (Err e) read = Fails e read
