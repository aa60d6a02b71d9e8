-- How many more braces may be opened after tokens.
use Rattle.std.proofs.Common.{◌≡◌, ℕ, zero, suc, ◌+◌, ◌<◌, inl, inr, Bool, true, false, cond, List, [], ◌∷◌, ◌++◌, Option, Some, None, refl, sym, ap, ◌∙◌, arith}
use Rattle.std.specs.Prelude.{count_by}
use Rattle.std.proofs.lemmas.Bool.{cases_Bool}
use Rattle.std.proofs.lemmas.List.Sums.{sum_by-cons}
use Rattle.tsdl_text.specs.declared.token.Symbol.{Symbol}
use Rattle.tsdl_text.specs.declared.token.Symbol.TheVariants as s
use Rattle.tsdl_text.specs.declared.token.TokenKind.{TokenKind}
use Rattle.tsdl_text.specs.declared.token.TokenKind.TheVariants as k
use Rattle.tsdl_text.specs.declared.token.Token.{Token}
use Rattle.tsdl_text.specs.Symbols.{is_keyword, is_type_keyword, is_same, is_symbol, is_word, is_typeword, is_identifier, is_string, constant_of}
use Rattle.tsdl_text.proofs.SameSymbols.{same_true}
use Rattle.tsdl_grammar.specs.Terminals.{is, Is}
use Rattle.tsdl_grammar.specs.Nesting.{opening, closing, NestsDeeper}

-- how many more, or none where too many are opened
unfoldable pub room : ℕ → List Token → Option ℕ
room n [] = Some n
room zero (t ∷ ts) = cond (is s.OpenBrace t) None (cond (is s.CloseBrace t) (room 1 ts) (room zero ts))
room (suc n) (t ∷ ts) = cond (is s.OpenBrace t) (room n ts) (cond (is s.CloseBrace t) (room (suc (suc n)) ts) (room (suc n) ts))

-- ---- a token is no brace

-- two symbols differ
other_kind : (a b : Symbol) (q : TokenKind) → is_same a b ≡ false → is_symbol a q ≡ true → is_symbol b q ≡ false
other_kind a b k.Identifier d e = absurd cc
other_kind a b (k.Constant n) d e = absurd cc
other_kind a b k.String d e = absurd cc
other_kind a b (k.Symbol c) d e = ap (λ x. is_same x b) (same_true c a e) ∙ d

pub is_other : (b : Symbol) {a : Symbol} {t : Token} → Is a t → is_same a b ≡ false → is b t ≡ false
is_other b {a} {t} i d = other_kind a b t.kind d i.holds

pub record NoBrace (t : Token) : Type 0 where
  pub no_open : is s.OpenBrace t ≡ false
  pub no_close : is s.CloseBrace t ≡ false

abbrev pub is_brace : Symbol → Bool
is_brace a = cond (is_same a s.OpenBrace) true (is_same a s.CloseBrace)

either_false : (a b : Bool) → cond a true b ≡ false → (a ≡ false) × (b ≡ false)
either_false true b e = absurd cc
either_false false b e = (refl, e)

pub symbol_no_brace : {a : Symbol} {t : Token} → Is a t → is_brace a ≡ false → NoBrace t
symbol_no_brace {a} i e =
    let d = either_false (is_same a s.OpenBrace) (is_same a s.CloseBrace) e in
    record { no_open = is_other s.OpenBrace i d.0; no_close = is_other s.CloseBrace i d.1 }

-- the same of a token's kind
abbrev IsPlain : TokenKind → Type 0
IsPlain q = (is_symbol s.OpenBrace q ≡ false) × (is_symbol s.CloseBrace q ≡ false)

keyword_plain : (a : Symbol) → is_keyword a ≡ true → IsPlain (k.Symbol a)
keyword_plain s.OpenBrace e = absurd cc
keyword_plain s.CloseBrace e = absurd cc
keyword_plain a e = (refl, refl)

word_plain : (q : TokenKind) → is_word q ≡ true → IsPlain q
word_plain k.Identifier e = (refl, refl)
word_plain (k.Constant n) e = absurd cc
word_plain k.String e = absurd cc
word_plain (k.Symbol a) e = keyword_plain a e

type_keyword_plain : (a : Symbol) → is_type_keyword a ≡ true → IsPlain (k.Symbol a)
type_keyword_plain s.OpenBrace e = absurd cc
type_keyword_plain s.CloseBrace e = absurd cc
type_keyword_plain a e = (refl, refl)

typeword_plain : (q : TokenKind) → is_typeword q ≡ true → IsPlain q
typeword_plain k.Identifier e = (refl, refl)
typeword_plain (k.Constant n) e = absurd cc
typeword_plain k.String e = absurd cc
typeword_plain (k.Symbol a) e = type_keyword_plain a e

identifier_plain : (q : TokenKind) → is_identifier q ≡ true → IsPlain q
identifier_plain k.Identifier e = (refl, refl)
identifier_plain (k.Constant n) e = absurd cc
identifier_plain k.String e = absurd cc
identifier_plain (k.Symbol a) e = absurd cc

string_plain : (q : TokenKind) → is_string q ≡ true → IsPlain q
string_plain k.Identifier e = absurd cc
string_plain (k.Constant n) e = absurd cc
string_plain k.String e = (refl, refl)
string_plain (k.Symbol a) e = absurd cc

constant_plain : (q : TokenKind) (n : ℕ) → constant_of q ≡ Some n → IsPlain q
constant_plain k.Identifier n e = absurd cc
constant_plain (k.Constant m) n e = (refl, refl)
constant_plain k.String n e = absurd cc
constant_plain (k.Symbol a) n e = absurd cc

no_brace : (t : Token) → IsPlain t.kind → NoBrace t
no_brace t p = record { no_open = p.0; no_close = p.1 }

pub word_no_brace : (t : Token) → is_word t.kind ≡ true → NoBrace t
word_no_brace t e = no_brace t (word_plain t.kind e)

pub typeword_no_brace : (t : Token) → is_typeword t.kind ≡ true → NoBrace t
typeword_no_brace t e = no_brace t (typeword_plain t.kind e)

pub identifier_no_brace : (t : Token) → is_identifier t.kind ≡ true → NoBrace t
identifier_no_brace t e = no_brace t (identifier_plain t.kind e)

pub string_no_brace : (t : Token) → is_string t.kind ≡ true → NoBrace t
string_no_brace t e = no_brace t (string_plain t.kind e)

pub constant_no_brace : (t : Token) (n : ℕ) → constant_of t.kind ≡ Some n → NoBrace t
constant_no_brace t n e = no_brace t (constant_plain t.kind n e)

-- ---- the room after a token

pub room_same : {t : Token} → NoBrace t → (n : ℕ) (ts : List Token) → room n (t ∷ ts) ≡ room n ts
unfolding room
room_same i zero ts = rw (i.no_open, i.no_close) refl
room_same i (suc n) ts = rw (i.no_open, i.no_close) refl

pub room_open : {t : Token} → Is s.OpenBrace t → (n : ℕ) (ts : List Token) → room (suc n) (t ∷ ts) ≡ room n ts
unfolding room
room_open i n ts = rw i.holds refl

pub room_shut : {t : Token} → Is s.OpenBrace t → (ts : List Token) → room 0 (t ∷ ts) ≡ None
unfolding room
room_shut i ts = rw i.holds refl

pub room_close : {t : Token} → Is s.CloseBrace t → (n : ℕ) (ts : List Token) → room n (t ∷ ts) ≡ room (suc n) ts
unfolding room
room_close i zero ts = rw (is_other s.OpenBrace i refl, i.holds) refl
room_close i (suc n) ts = rw (is_other s.OpenBrace i refl, i.holds) refl

pub room_end : (n : ℕ) → room n [] ≡ Some n
unfolding room
room_end n = refl

-- ---- no room, where braces nest deeper

-- what a token is among braces
pub data Brace (t : Token) : Type 0 where
  opens : Is s.OpenBrace t → Brace t
  closes : Is s.CloseBrace t → Brace t
  other : NoBrace t → Brace t

pub brace : (t : Token) → Brace t
brace t = elim (cases_Bool (is s.OpenBrace t)) [
  | inl e ↦ opens (record { holds = e })
  | inr e ↦ elim (cases_Bool (is s.CloseBrace t)) [ inl f ↦ closes (record { holds = f }) | inr f ↦ other (record { no_open = e; no_close = f }) ]
]

count_cons : (p : Token → Bool) (t : Token) (ts : List Token) (b : Bool) → p t ≡ b → count_by p (t ∷ ts) ≡ cond b 1 0 + count_by p ts
count_cons p t ts b e = sum_by-cons (λ u. cond (p u) 1 0) t ts ∙ ap (λ c. cond c 1 0 + count_by p ts) e

counts_open : {t : Token} → Is s.OpenBrace t → (ts : List Token) → (opening (t ∷ ts) ≡ 1 + opening ts) × (closing (t ∷ ts) ≡ 0 + closing ts)
counts_open {t} i ts = (count_cons (is s.OpenBrace) t ts true i.holds, count_cons (is s.CloseBrace) t ts false (is_other s.CloseBrace i refl))

counts_close : {t : Token} → Is s.CloseBrace t → (ts : List Token) → (opening (t ∷ ts) ≡ 0 + opening ts) × (closing (t ∷ ts) ≡ 1 + closing ts)
counts_close {t} i ts = (count_cons (is s.OpenBrace) t ts false (is_other s.OpenBrace i refl), count_cons (is s.CloseBrace) t ts true i.holds)

counts_same : {t : Token} → NoBrace t → (ts : List Token) → (opening (t ∷ ts) ≡ 0 + opening ts) × (closing (t ∷ ts) ≡ 0 + closing ts)
counts_same {t} i ts = (count_cons (is s.OpenBrace) t ts false i.no_open, count_cons (is s.CloseBrace) t ts false i.no_close)

-- a beginning that opens too many leaves no room
pub deep_front : (front : List Token) (n : ℕ) (rest : List Token) → closing front + n < opening front → room n (front ++ rest) ≡ None
deep_front [] n rest lt = absurd (omega arith)
deep_front (t ∷ front) zero rest lt = elim (brace t) [
  | opens i ↦ room_shut i (front ++ rest)
  | closes i ↦ room_close i 0 (front ++ rest) ∙ deep_front front 1 rest (omega (arith, counts_close i front))
  | other i ↦ room_same i 0 (front ++ rest) ∙ deep_front front 0 rest (omega (arith, counts_same i front))
]
deep_front (t ∷ front) (suc n) rest lt = elim (brace t) [
  | opens i ↦ room_open i n (front ++ rest) ∙ deep_front front n rest (omega (arith, counts_open i front))
  | closes i ↦ room_close i (suc n) (front ++ rest) ∙ deep_front front (suc (suc n)) rest (omega (arith, counts_close i front))
  | other i ↦ room_same i (suc n) (front ++ rest) ∙ deep_front front (suc n) rest (omega (arith, counts_same i front))
]

-- one more token before such a beginning
deeper_from : (t : Token) (ts : List Token) (n m : ℕ) → ((front : List Token) → closing front + n < opening front → closing (t ∷ front) + m < opening (t ∷ front)) → NestsDeeper n ts → NestsDeeper m (t ∷ ts)
deeper_from t ts n m h d = (t ∷ d.0, d.1, ap (λ (us : List Token). t ∷ us) d.2, h d.0 d.3)

pub deep_from_no_room : (ts : List Token) (n : ℕ) → room n ts ≡ None → NestsDeeper n ts
deep_from_no_room [] n e = absurd (let f : Some n ≡ None = sym (room_end n) ∙ e in cc)
deep_from_no_room (t ∷ ts) zero e = elim (brace t) [
  | opens i ↦ (t ∷ [], ts, refl, omega (arith, counts_open i []))
  | closes i ↦ deeper_from t ts 1 0 (λ front lt. omega (arith, counts_close i front)) (deep_from_no_room ts 1 (sym (room_close i 0 ts) ∙ e))
  | other i ↦ deeper_from t ts 0 0 (λ front lt. omega (arith, counts_same i front)) (deep_from_no_room ts 0 (sym (room_same i 0 ts) ∙ e))
]
deep_from_no_room (t ∷ ts) (suc n) e = elim (brace t) [
  | opens i ↦ deeper_from t ts n (suc n) (λ front lt. omega (arith, counts_open i front)) (deep_from_no_room ts n (sym (room_open i n ts) ∙ e))
  | closes i ↦ deeper_from t ts (suc (suc n)) (suc n) (λ front lt. omega (arith, counts_close i front)) (deep_from_no_room ts (suc (suc n)) (sym (room_close i (suc n) ts) ∙ e))
  | other i ↦ deeper_from t ts (suc n) (suc n) (λ front lt. omega (arith, counts_same i front)) (deep_from_no_room ts (suc n) (sym (room_same i (suc n) ts) ∙ e))
]

pub not_deeper : (ts : List Token) (n m : ℕ) → room n ts ≡ Some m → NestsDeeper n ts → ⊥
not_deeper ts n m e d = let f : Some m ≡ None = sym e ∙ ap (room n) d.2 ∙ deep_front d.0 n d.1 d.3 in cc
