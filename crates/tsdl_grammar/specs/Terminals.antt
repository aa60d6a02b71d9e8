-- What the grammar's capital words ask of a token.
use Rattle.std.specs.Prelude.{◌≡◌, ℕ, Bool, true, false, ◌||◌, List, Some}
use Rattle.tsdl_text.specs.declared.token.Symbol.{Symbol}
use Rattle.tsdl_text.specs.declared.token.Symbol.TheVariants as s
use Rattle.tsdl_text.specs.declared.token.Token.{Token}
use Rattle.tsdl_text.specs.Symbols.{is_symbol, is_word, is_typeword, is_identifier, is_string, constant_of}
use Rattle.tsdl_text.specs.Strings.{string_value}

-- the bytes of a word, or those that a string stands for
abbrev pub Word : Type 0
Word = List ℕ

abbrev pub Words : Type 0
Words = List Word

-- the token is that keyword or punctuator
abbrev pub is : Symbol → Token → Bool
is symbol token = is_symbol symbol token.kind

-- one of the words that a declaration of names begins with
abbrev pub opens_declaration : Token → Bool
opens_declaration token =
    is s.Struct token || is s.Variant token || is s.Enum token || is s.Typedef token
    || is s.Typealias token

-- a quoted word
pub record Is (symbol : Symbol) (token : Token) : Type 0 where
  pub holds : is symbol token ≡ true

-- IDENT: a name that is no keyword
pub record IsIdentifier (token : Token) : Type 0 where
  pub holds : is_identifier token.kind ≡ true

-- CONST, and its value
pub record IsConstant (n : ℕ) (token : Token) : Type 0 where
  pub holds : constant_of token.kind ≡ Some n

-- STRING, and the bytes that it stands for
pub record IsString (bytes : Word) (token : Token) : Type 0 where
  pub holds : is_string token.kind ≡ true
  pub value : bytes ≡ string_value token.text.now

-- WORD: an identifier or a keyword
pub record IsWord (token : Token) : Type 0 where
  pub holds : is_word token.kind ≡ true

-- a typeword other than `const`: an identifier or a keyword of C's types
pub record IsTypeword (token : Token) : Type 0 where
  pub holds : is_typeword token.kind ≡ true
  pub kept : is s.Const token ≡ false

-- the first word of the name of an entry
pub record IsEntryWord (token : Token) : Type 0 where
  pub holds : opens_declaration token ≡ false
