-- What was read before, and what is still read.
use Rattle.std.specs.Prelude.{List, ◌++◌, Result, Ok}
use Rattle.tsdl_text.specs.declared.token.Symbol.{Symbol}
use Rattle.tsdl_text.specs.declared.token.Token.{Token}
use Rattle.tsdl_grammar.specs.Steps.{Refusal, ◌>>=◌, expect}

abbrev pub with_front : {A : Type 0} → List A → Result (List A × List Token) Refusal
    → Result (List A × List Token) Refusal
with_front front read = read >>= λ x. Ok (front ++ x.0, x.1)

-- what was read before a symbol, and what follows it
abbrev pub closed : {A : Type 0} → Symbol → A → List Token → Result (A × List Token) Refusal
closed symbol x ts = expect symbol ts >>= λ rest. Ok (x, rest)
