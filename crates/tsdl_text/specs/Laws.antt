-- What holds of the definitions alone, as statements. The functions of the module `laws` prove them.
use Rattle.std.specs.Prelude.{◌≡◌, ◌⊎◌, ◌↔◌, ℕ, true, List, map}
use Rattle.std.specs.List.Sorted.{IsNonDecreasing}
use Rattle.tsdl_text.specs.declared.token.Symbol.{Symbol}
use Rattle.tsdl_text.specs.declared.token.TokenKind.{TokenKind}
use Rattle.tsdl_text.specs.declared.token.TokenKind.TheVariants as kinds
use Rattle.tsdl_text.specs.declared.fault.MetaFault.{MetaFault}
use Rattle.tsdl_text.specs.Characters.{StandsFor}
use Rattle.tsdl_text.specs.Strings.{string_value}
use Rattle.tsdl_text.specs.Symbols.{is_symbol}
use Rattle.tsdl_text.specs.Tokens.{Lexeme, Lexes, NoToken}
use Rattle.tsdl_text.specs.Packets.{MetaText, MetaBroken}

-- a text has at most one list of tokens
abbrev pub OneLexing : Type 0
OneLexing =
    (text : List ℕ) (first second : List Lexeme) → Lexes text first → Lexes text second
    → first ≡ second

-- it has at most one line of a place where no token begins
abbrev pub OneLine : Type 0
OneLine =
    (text : List ℕ) (first second : ℕ) → NoToken text first → NoToken text second → first ≡ second

-- it has a list of tokens or such a place
abbrev pub LexesOrNot : Type 0
LexesOrNot =
    (text : List ℕ)
    → ((tokens : List Lexeme) × Lexes text tokens) ⊎ ((line : ℕ) × NoToken text line)

-- and never both
abbrev pub NeverBoth : Type 0
NeverBoth =
    (text : List ℕ) (tokens : List Lexeme) (line : ℕ) → Lexes text tokens → NoToken text line → ⊥

-- the lines of the tokens of a text do not fall
abbrev pub LinesNeverFall : Type 0
LinesNeverFall =
    (text : List ℕ) (tokens : List Lexeme) → Lexes text tokens
    → IsNonDecreasing (map (λ token. token.line) tokens)

-- what a reader makes of a string is the bytes that its characters stand for
abbrev pub StringsStand : Type 0
StringsStand = (slice values : List ℕ) → StandsFor slice values → string_value slice ≡ values

-- a token is said to be a symbol exactly where its kind is that symbol
abbrev pub SymbolsAreCompared : Type 0
SymbolsAreCompared =
    (symbol : Symbol) (kind : TokenKind)
    → (is_symbol symbol kind ≡ true) ↔ (kind ≡ kinds.Symbol symbol)

-- bytes are metadata of at most one text
abbrev pub OneText : Type 0
OneText =
    (bytes first second : List ℕ) → MetaText bytes first → MetaText bytes second → first ≡ second

-- they are broken in at most one way
abbrev pub OneBreak : Type 0
OneBreak =
    (bytes : List ℕ) (first second : MetaFault) → MetaBroken bytes first → MetaBroken bytes second
    → first ≡ second

-- they have a text or are broken
abbrev pub TextOrBroken : Type 0
TextOrBroken =
    (bytes : List ℕ)
    → ((text : List ℕ) × MetaText bytes text) ⊎ ((fault : MetaFault) × MetaBroken bytes fault)

-- and never both
abbrev pub NeverBroken : Type 0
NeverBroken =
    (bytes text : List ℕ) (fault : MetaFault) → MetaText bytes text → MetaBroken bytes fault → ⊥
