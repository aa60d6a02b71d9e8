-- Steps of a reading: over single tokens, in a row, as often as a test holds, and where it holds.
use Rattle.std.specs.Prelude.{ℕ, zero, suc, ◌==◌, Bool, true, false, not, List, [], ◌∷◌, length, Option, Some, None, Result, Ok, Err, if◌then◌else◌}
use Rattle.tsdl_text.specs.declared.token.Symbol.{Symbol}
use Rattle.tsdl_text.specs.declared.token.Symbol.TheVariants as s
use Rattle.tsdl_text.specs.declared.token.Token.{Token}
use Rattle.tsdl_text.specs.Symbols.{is_identifier}
use Rattle.tsdl_grammar.specs.Terminals.{is, opens_declaration}

-- no tree is spelled, or braces nest too deep
pub data Refusal : Type 0 where
  bad : Refusal
  deep : Refusal

abbrev pub bind : {A B : Type 0} → Result A Refusal → (A → Result B Refusal) → Result B Refusal
bind (Ok x) f = f x
bind (Err e) f = Err e

infixl 10 ◌>>=◌
abbrev pub ◌>>=◌ : {A B : Type 0} → Result A Refusal → (A → Result B Refusal) → Result B Refusal
r >>= f = bind r f

abbrev pub Parse : Type 0 → Type 0
Parse A = List Token → Result (A × List Token) Refusal

-- ---- steps

abbrev pub or_bad : {A : Type 0} → Option A → Result A Refusal
or_bad None = Err bad
or_bad (Some x) = Ok x

abbrev pub after : Symbol → List Token → Option (List Token)
after a [] = None
after a (t ∷ ts) = if is a t then Some ts else None

-- past that symbol, which must be first
unfoldable pub expect : Symbol → List Token → Result (List Token) Refusal
expect a ts = or_bad (after a ts)

-- past that symbol where it is first
unfoldable pub past : Symbol → List Token → List Token
past a [] = []
past a (t ∷ ts) = if is a t then ts else t ∷ ts

-- that symbol is first
abbrev pub begins : Symbol → List Token → Bool
begins a [] = false
begins a (t ∷ ts) = is a t

abbrev pub begins_identifier : List Token → Bool
begins_identifier [] = false
begins_identifier (t ∷ ts) = is_identifier t.kind

-- a struct, a variant or an enum is first
abbrev pub begins_compound : List Token → Bool
begins_compound ts =
    if begins s.Struct ts then true else (if begins s.Variant ts then true else begins s.Enum ts)

-- the labels of an enum, or the container before them, are first
abbrev pub begins_labels : List Token → Bool
begins_labels ts = if begins s.Colon ts then true else begins s.OpenBrace ts

-- a declaration of names is first
abbrev pub begins_declaration : List Token → Bool
begins_declaration [] = false
begins_declaration (t ∷ ts) = opens_declaration t

-- what is in braces goes on
abbrev pub before_close : List Token → Bool
before_close [] = false
before_close (t ∷ ts) = not (is s.CloseBrace t)

-- a comma is first, and it is not the last before the brace
abbrev pub before_label : List Token → Bool
before_label [] = false
before_label (t ∷ ts) = if is s.Comma t then not (begins s.CloseBrace ts) else false

abbrev pub before_end : List Token → Bool
before_end [] = false
before_end (t ∷ ts) = true

-- Items as long as the test holds of the tokens. The number bounds the turns: the count of the tokens is enough.
unfoldable pub loop : {A : Type 0} → (List Token → Bool) → Parse A → ℕ → Parse (List A)
loop go item zero ts = if go ts then Err bad else Ok ([], ts)
loop go item (suc n) ts =
    if go ts then (item ts >>= λ x. loop go item n x.1 >>= λ xs. Ok (x.0 ∷ xs.0, xs.1))
    else Ok ([], ts)

abbrev pub all : {A : Type 0} → (List Token → Bool) → Parse A → Parse (List A)
all go item ts = loop go item (length ts) ts

-- one item, where the test holds
unfoldable pub optional : {A : Type 0} → (List Token → Bool) → Parse A → Parse (Option A)
optional go item ts = if go ts then (item ts >>= λ x. Ok (Some x.0, x.1)) else Ok (None, ts)

-- an opening brace, where so many more may nest
unfoldable pub open_at : ℕ → List Token → Result (List Token) Refusal
open_at d ts = do
  rest ← expect s.OpenBrace ts
  if d == 0 then Err deep else Ok rest
