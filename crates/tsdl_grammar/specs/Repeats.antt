-- Parts of the grammar that occur any number of times, or not at all.
use Rattle.std.specs.Prelude.{List, [], ◌∷◌, ◌++◌, Option, Some, None}
use Rattle.tsdl_text.specs.declared.token.Symbol.TheVariants as s
use Rattle.tsdl_text.specs.declared.token.Token.{Token}
use Rattle.tsdl_grammar.specs.Terminals.{Is}

-- `{ x }`
pub data Many {A : Type 0} (P : A → List Token → Type 0) : List A → List Token → Type 0 where
  none : Many P [] []
  more : {x : A} {xs : List A} {ts us : List Token} → P x ts → Many P xs us
      → Many P (x ∷ xs) (ts ++ us)

-- `x { "," x }`
pub data Listed {A : Type 0} (P : A → List Token → Type 0) : List A → List Token → Type 0 where
  last : {x : A} {ts : List Token} → P x ts → Listed P (x ∷ []) ts
  more : {x : A} {xs : List A} {ts us : List Token} {c : Token} → P x ts → Is s.Comma c
      → Listed P xs us → Listed P (x ∷ xs) (ts ++ (c ∷ us))

-- `[ x ]`
pub data Optional {A : Type 0} (P : A → List Token → Type 0) : Option A → List Token → Type 0 where
  none : Optional P None []
  some : {x : A} {ts : List Token} → P x ts → Optional P (Some x) ts
