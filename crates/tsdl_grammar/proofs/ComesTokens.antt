-- What a token is not, when it is something else.
use Rattle.std.proofs.Common.{◌≡◌, ℕ, inl, inr, true, false, List, [], ◌∷◌, Some, None, refl, ap, ◌∙◌}
use Rattle.std.proofs.lemmas.Bool.{cases_Bool}
use Rattle.tsdl_text.specs.declared.token.Symbol.{Symbol}
use Rattle.tsdl_text.specs.declared.token.TokenKind.{TokenKind}
use Rattle.tsdl_text.specs.declared.token.TokenKind.TheVariants as kinds
use Rattle.tsdl_text.specs.declared.token.Token.{Token}
use Rattle.tsdl_text.specs.Symbols.{is_keyword, is_type_keyword, is_same, is_symbol, is_word, is_typeword, is_identifier, is_string, constant_of}
use Rattle.tsdl_text.proofs.SameSymbols.{same_true}
use Rattle.tsdl_grammar.specs.Terminals.{is, Is, IsIdentifier, IsConstant, IsString, IsWord}
use Rattle.tsdl_grammar.specs.Spelling.{run}
use Rattle.tsdl_grammar.specs.Steps.{past, begins, begins_identifier}
use Rattle.tsdl_grammar.proofs.Room.{is_other}

not_identifier : (a : Symbol) (q : TokenKind) → is_symbol a q ≡ true → is_identifier q ≡ false
not_identifier a kinds.Identifier e = absurd cc
not_identifier a (kinds.Constant n) e = absurd cc
not_identifier a kinds.String e = absurd cc
not_identifier a (kinds.Symbol c) e = refl

pub no_identifier : {a : Symbol} {t : Token} → Is a t → is_identifier t.kind ≡ false
no_identifier {a} {t} i = not_identifier a t.kind i.holds

symbol_typeword : (a : Symbol) (q : TokenKind) → is_symbol a q ≡ true → is_typeword q ≡ is_type_keyword a
symbol_typeword a kinds.Identifier e = absurd cc
symbol_typeword a (kinds.Constant n) e = absurd cc
symbol_typeword a kinds.String e = absurd cc
symbol_typeword a (kinds.Symbol c) e = ap is_type_keyword (same_true c a e)

-- a symbol is a typeword where it is such a keyword
pub typeword_by : {a : Symbol} {t : Token} → Is a t → is_typeword t.kind ≡ is_type_keyword a
typeword_by {a} {t} i = symbol_typeword a t.kind i.holds

-- a typeword is no other symbol
pub typeword_other : (b : Symbol) (t : Token) → is_typeword t.kind ≡ true → is_type_keyword b ≡ false → is b t ≡ false
typeword_other b t w d = elim (cases_Bool (is b t)) [ inl e ↦ let q = symbol_typeword b t.kind e in absurd (cc (q, w, d)) | inr e ↦ e ]

identifier_kind : (b : Symbol) (q : TokenKind) → is_identifier q ≡ true → is_symbol b q ≡ false
identifier_kind b kinds.Identifier e = refl
identifier_kind b (kinds.Constant n) e = refl
identifier_kind b kinds.String e = refl
identifier_kind b (kinds.Symbol c) e = absurd cc

-- an identifier is no symbol
pub identifier_other : (b : Symbol) {t : Token} → IsIdentifier t → is b t ≡ false
identifier_other b {t} i = identifier_kind b t.kind i.holds

identifier_typeword : (q : TokenKind) → is_identifier q ≡ true → is_typeword q ≡ true
identifier_typeword kinds.Identifier e = refl
identifier_typeword (kinds.Constant n) e = absurd cc
identifier_typeword kinds.String e = absurd cc
identifier_typeword (kinds.Symbol c) e = absurd cc

pub typeword_of : {t : Token} → IsIdentifier t → is_typeword t.kind ≡ true
typeword_of {t} i = identifier_typeword t.kind i.holds

-- ---- words, strings and constants

symbol_word : (a : Symbol) (q : TokenKind) → is_symbol a q ≡ true → is_word q ≡ is_keyword a
symbol_word a kinds.Identifier e = absurd cc
symbol_word a (kinds.Constant n) e = absurd cc
symbol_word a kinds.String e = absurd cc
symbol_word a (kinds.Symbol c) e = ap is_keyword (same_true c a e)

-- a symbol is a word where it is a keyword
pub word_by : {a : Symbol} {t : Token} → Is a t → is_word t.kind ≡ is_keyword a
word_by {a} {t} i = symbol_word a t.kind i.holds

-- a word is no punctuator
pub word_other : (b : Symbol) {t : Token} → IsWord t → is_keyword b ≡ false → is b t ≡ false
word_other b {t} w d = elim (cases_Bool (is b t)) [ inl e ↦ let q = symbol_word b t.kind e in absurd (cc (q, w.holds, d)) | inr e ↦ e ]

word_constant : (q : TokenKind) → is_word q ≡ true → constant_of q ≡ None
word_constant kinds.Identifier e = refl
word_constant (kinds.Constant n) e = absurd cc
word_constant kinds.String e = absurd cc
word_constant (kinds.Symbol c) e = refl

pub word_no_constant : {t : Token} → IsWord t → constant_of t.kind ≡ None
word_no_constant {t} w = word_constant t.kind w.holds

symbol_string : (a : Symbol) (q : TokenKind) → is_symbol a q ≡ true → is_string q ≡ false
symbol_string a kinds.Identifier e = absurd cc
symbol_string a (kinds.Constant n) e = absurd cc
symbol_string a kinds.String e = absurd cc
symbol_string a (kinds.Symbol c) e = refl

pub symbol_no_string : {a : Symbol} {t : Token} → Is a t → is_string t.kind ≡ false
symbol_no_string {a} {t} i = symbol_string a t.kind i.holds

string_kind : (q : TokenKind) → is_string q ≡ true → q ≡ kinds.String
string_kind kinds.Identifier e = absurd cc
string_kind (kinds.Constant n) e = absurd cc
string_kind kinds.String e = refl
string_kind (kinds.Symbol c) e = absurd cc

pub string_no_word : {bytes : List ℕ} {t : Token} → IsString bytes t → is_word t.kind ≡ false
string_no_word {t = t} i = ap is_word (string_kind t.kind i.holds)

pub string_other : (b : Symbol) {bytes : List ℕ} {t : Token} → IsString bytes t → is b t ≡ false
string_other b {t = t} i = ap (is_symbol b) (string_kind t.kind i.holds)

constant_kind : (q : TokenKind) (n : ℕ) → constant_of q ≡ Some n → q ≡ kinds.Constant n
constant_kind kinds.Identifier n e = absurd cc
constant_kind (kinds.Constant m) n e = cc
constant_kind kinds.String n e = absurd cc
constant_kind (kinds.Symbol c) n e = absurd cc

pub constant_no_word : {n : ℕ} {t : Token} → IsConstant n t → is_word t.kind ≡ false
constant_no_word {n} {t} i = ap is_word (constant_kind t.kind n i.holds)

pub constant_no_string : {n : ℕ} {t : Token} → IsConstant n t → is_string t.kind ≡ false
constant_no_string {n} {t} i = ap is_string (constant_kind t.kind n i.holds)

pub constant_other : (b : Symbol) {n : ℕ} {t : Token} → IsConstant n t → is b t ≡ false
constant_other b {n} {t} i = ap (is_symbol b) (constant_kind t.kind n i.holds)

-- ---- what is first

pub begins_other : (b a : Symbol) (ts : List Token) → begins a ts ≡ true → is_same a b ≡ false → begins b ts ≡ false
begins_other b a [] e d = refl
begins_other b a (t ∷ ts) e d = is_other b {a = a} {t = t} (record { holds = e }) d

pub begins_no_identifier : (a : Symbol) (ts : List Token) → begins a ts ≡ true → begins_identifier ts ≡ false
begins_no_identifier a [] e = refl
begins_no_identifier a (t ∷ ts) e = no_identifier {a = a} {t = t} (record { holds = e })

pub past_is : (a : Symbol) (t : Token) (ts : List Token) → Is a t → past a (t ∷ ts) ≡ ts
unfolding past
past_is a t ts i = rw i.holds refl

pub past_none : (a : Symbol) (ts : List Token) → begins a ts ≡ false → past a ts ≡ ts
unfolding past
past_none a [] e = refl
past_none a (t ∷ ts) e = rw e refl

-- no typeword is first
pub no_run : {a : Symbol} {t : Token} (post : List Token) → Is a t → is_type_keyword a ≡ false → run (t ∷ post) ≡ 0
unfolding run
no_run {a} {t} post i d = let e : is_typeword t.kind ≡ false = typeword_by i ∙ d in rw e refl

pub begins_no_run : (a : Symbol) (ts : List Token) → begins a ts ≡ true → is_type_keyword a ≡ false → run ts ≡ 0
unfolding run
begins_no_run a [] e d = refl
begins_no_run a (t ∷ ts) e d = no_run {a = a} {t = t} ts (record { holds = e }) d
