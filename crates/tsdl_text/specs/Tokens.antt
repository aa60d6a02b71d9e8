-- A text as blanks, comments and tokens (CTF 1.8.3, appendix C.1.1 to C.1.7), as in C.
use Rattle.std.specs.Prelude.{◌≡◌, ◌≢◌, ℕ, ◌+◌, ◌≤◌, Bool, true, false, not, ◌==◌, List, [], ◌∷◌, ◌++◌, length, Option, MatchOption, codes, count_by}
use Rattle.std.specs.Option.{option_map, option_to_list}
use Rattle.std.specs.List.{list_all, flat_map}
use Rattle.ctf_list.specs.Row.{AllStand, NothingStands}
use Rattle.tsdl_text.specs.declared.token.Symbol.{Symbol}
use Rattle.tsdl_text.specs.declared.token.TokenKind.{TokenKind}
use Rattle.tsdl_text.specs.declared.token.TokenKind.TheVariants as kinds
use Rattle.tsdl_text.specs.declared.token.Token.{Token}
use Rattle.tsdl_text.specs.declared.fault.MetaFault.{MetaFault}
use Rattle.tsdl_text.specs.declared.fault.MetaFault.TheVariants as faults
use Rattle.tsdl_text.specs.Symbols.{spelling}
use Rattle.ctf_list.specs.Prefix.{begins}
use Rattle.tsdl_text.specs.Bytes.{is_blank, is_word_start, is_word_byte}
use Rattle.tsdl_text.specs.Constants.{IsConstant}
use Rattle.tsdl_text.specs.Characters.{StandsFor}

-- ---- what spells a token

-- letters, digits and `_`, of which the first is no digit
pub record IsWord (bytes : List ℕ) : Type 0 where
  pub first : begins is_word_start bytes ≡ true
  pub each : list_all is_word_byte bytes ≡ true

-- a word that is no keyword
pub record IsIdentifier (bytes : List ℕ) : Type 0 where
  pub word : IsWord bytes
  pub no_keyword : (symbol : Symbol) → bytes ≢ spelling symbol

-- characters between quotes
pub record IsString (bytes : List ℕ) : Type 0 where
  pub values : List ℕ
  pub stands : StandsFor bytes values

-- these bytes are a token of this kind
abbrev pub Spells : TokenKind → List ℕ → Type 0
Spells kinds.Identifier bytes = IsIdentifier bytes
Spells (kinds.Constant value) bytes = IsConstant bytes value
Spells kinds.String bytes = IsString bytes
Spells (kinds.Symbol symbol) bytes = bytes ≡ spelling symbol

-- no token at the same place is longer
abbrev pub IsLongest : List ℕ → List ℕ → Type 0
IsLongest bytes after =
    (kind : TokenKind) (other rest : List ℕ) → bytes ++ after ≡ other ++ rest → Spells kind other
    → length other ≤ length bytes

abbrev pub is_constant : TokenKind → Bool
is_constant kinds.Identifier = false
is_constant (kinds.Constant value) = true
is_constant kinds.String = false
is_constant (kinds.Symbol symbol) = false

-- These bytes are the token that is before the bytes `after`: the longest one there, and no
-- letter, digit or `_` follows a constant.
pub record IsToken (kind : TokenKind) (bytes after : List ℕ) : Type 0 where
  pub spelled : Spells kind bytes
  pub longest : IsLongest bytes after
  pub apart : is_constant kind ≡ true → begins is_word_byte after ≡ false

-- ---- what is between tokens

-- A blank is one byte. A comment from `/*` ends at the first `*/` after that, one from `//` at the
-- end of its line or of the text.
pub data Skipped : List ℕ → List ℕ → Type 0 where
  blank : {b : ℕ} {after : List ℕ} → is_blank b ≡ true → Skipped (b ∷ []) after
  block : (inside : List ℕ) {after : List ℕ}
      → ((front rest : List ℕ) → inside ++ codes "*/" ≡ (front ++ codes "*/") ++ rest → rest ≡ [])
      → Skipped (codes "/*" ++ (inside ++ codes "*/")) after
  rest_of_line : {inside after : List ℕ} → list_all (λ b. not (b == 10)) inside ≡ true
      → begins (λ b. not (b == 10)) after ≡ false → Skipped (codes "//" ++ inside) after

-- ---- a text as pieces

-- bytes of a text: a token of a kind, or, with no kind, a blank or a comment
pub record Piece : Type 0 where
  pub kind : Option TokenKind
  pub bytes : List ℕ

-- the piece is before these bytes, which go on to the end of the text
abbrev pub Stands : Piece → List ℕ → Type 0
Stands piece after =
    MatchOption piece.kind (Skipped piece.bytes after) (λ kind. IsToken kind piece.bytes after)

-- the bytes of pieces, one after the other
abbrev pub joined : List Piece → List ℕ
joined pieces = flat_map (λ (piece : Piece). piece.bytes) pieces

-- the pieces are one after the other, the last before these bytes
abbrev pub AllPieces : List Piece → List ℕ → Type 0
AllPieces pieces after = AllStand (λ (piece : Piece). piece.bytes) Stands pieces after

-- ---- tokens

-- a token as contracts see it: its slice is the list of its bytes
pub record Lexeme : Type 0 where
  pub kind : TokenKind
  pub bytes : List ℕ
  pub start : ℕ
  pub line : ℕ

abbrev pub lexeme : Token → Lexeme
lexeme token = record {
  kind = token.kind;
  bytes = token.text.now;
  start = token.start;
  line = token.line;
}

-- how many newlines there are
abbrev pub newlines : List ℕ → ℕ
newlines bytes = count_by (λ b. b == 10) bytes

-- the line of the place after these bytes
abbrev pub line_after : List ℕ → ℕ
line_after front = 1 + newlines front

-- the tokens among pieces that are after the bytes `front`
abbrev pub lexemes : List ℕ → List Piece → List Lexeme
lexemes front [] = []
lexemes front (piece ∷ pieces) =
    option_to_list (option_map
    (λ kind.
    record {
      kind = kind;
      bytes = piece.bytes;
      start = length front;
      line = line_after front;
    })
    piece.kind)
    ++ lexemes (front ++ piece.bytes) pieces

-- These are the tokens of the text: it is blanks, comments and tokens, one after the other.
pub record Lexes (text : List ℕ) (tokens : List Lexeme) : Type 0 where
  pub pieces : List Piece
  pub whole : joined pieces ≡ text
  pub stand : AllPieces pieces []
  pub tokens_are : tokens ≡ lexemes [] pieces

-- There is a place on this line at which the text goes on and neither a token, a blank nor a comment
-- begins, while up to there it is such pieces.
pub record NoToken (text : List ℕ) (line : ℕ) : Type 0 where
  pub pieces : List Piece
  pub after : List ℕ
  pub whole : joined pieces ++ after ≡ text
  pub stand : AllPieces pieces after
  pub goes_on : after ≢ []
  pub nothing : NothingStands (λ (piece : Piece). piece.bytes) Stands after
  pub line_is : line ≡ line_after (joined pieces)

-- what a refusal of a text says: nothing where an allocation failed
abbrev pub TokensRefused : List ℕ → MetaFault → Type 0
TokensRefused text (faults.NoToken line) = NoToken text line
TokensRefused text faults.NoMemory = Unit {0}
TokensRefused text faults.CutShort = ⊥
TokensRefused text faults.WrongMagic = ⊥
TokensRefused text faults.SchemeUnsupported = ⊥
TokensRefused text faults.WrongVersion = ⊥
TokensRefused text faults.UuidDiffers = ⊥
TokensRefused text faults.TooLong = ⊥
