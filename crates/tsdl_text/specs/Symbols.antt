-- The symbols of TSDL, their spellings, which of them are keywords, and tests of a token's kind.
use Rattle.std.specs.Prelude.{ℕ, Bool, true, false, List, Option, Some, None, codes}
use Rattle.tsdl_text.specs.declared.token.Symbol.{Symbol}
use Rattle.tsdl_text.specs.declared.token.Symbol.TheVariants as symbols
use Rattle.tsdl_text.specs.declared.token.TokenKind.{TokenKind}
use Rattle.tsdl_text.specs.declared.token.TokenKind.TheVariants as kinds

-- how a symbol is written (CTF 1.8.3, appendix C.1)
abbrev pub spelling : Symbol → List ℕ
spelling symbols.Align = codes "align"
spelling symbols.Callsite = codes "callsite"
spelling symbols.Clock = codes "clock"
spelling symbols.Enum = codes "enum"
spelling symbols.Env = codes "env"
spelling symbols.Event = codes "event"
spelling symbols.FloatingPoint = codes "floating_point"
spelling symbols.Integer = codes "integer"
spelling symbols.Stream = codes "stream"
spelling symbols.String = codes "string"
spelling symbols.Struct = codes "struct"
spelling symbols.Trace = codes "trace"
spelling symbols.Typealias = codes "typealias"
spelling symbols.Typedef = codes "typedef"
spelling symbols.Variant = codes "variant"
spelling symbols.Const = codes "const"
spelling symbols.Char = codes "char"
spelling symbols.Double = codes "double"
spelling symbols.Float = codes "float"
spelling symbols.Int = codes "int"
spelling symbols.Long = codes "long"
spelling symbols.Short = codes "short"
spelling symbols.Signed = codes "signed"
spelling symbols.Unsigned = codes "unsigned"
spelling symbols.Void = codes "void"
spelling symbols.Bool = codes "_Bool"
spelling symbols.Complex = codes "_Complex"
spelling symbols.Imaginary = codes "_Imaginary"
spelling symbols.OpenBrace = codes "{"
spelling symbols.CloseBrace = codes "}"
spelling symbols.OpenBracket = codes "["
spelling symbols.CloseBracket = codes "]"
spelling symbols.OpenParen = codes "("
spelling symbols.CloseParen = codes ")"
spelling symbols.Less = codes "<"
spelling symbols.Greater = codes ">"
spelling symbols.Semicolon = codes ";"
spelling symbols.Colon = codes ":"
spelling symbols.Comma = codes ","
spelling symbols.Dot = codes "."
spelling symbols.Ellipsis = codes "..."
spelling symbols.Equals = codes "="
spelling symbols.Assign = codes ":="
spelling symbols.Plus = codes "+"
spelling symbols.Minus = codes "-"

-- ---- tests of a token's kind

-- a keyword (CTF 1.8.3, appendix C.1.2)
abbrev pub is_keyword : Symbol → Bool
is_keyword symbols.Align = true
is_keyword symbols.Callsite = true
is_keyword symbols.Clock = true
is_keyword symbols.Enum = true
is_keyword symbols.Env = true
is_keyword symbols.Event = true
is_keyword symbols.FloatingPoint = true
is_keyword symbols.Integer = true
is_keyword symbols.Stream = true
is_keyword symbols.String = true
is_keyword symbols.Struct = true
is_keyword symbols.Trace = true
is_keyword symbols.Typealias = true
is_keyword symbols.Typedef = true
is_keyword symbols.Variant = true
is_keyword symbols.Const = true
is_keyword symbols.Char = true
is_keyword symbols.Double = true
is_keyword symbols.Float = true
is_keyword symbols.Int = true
is_keyword symbols.Long = true
is_keyword symbols.Short = true
is_keyword symbols.Signed = true
is_keyword symbols.Unsigned = true
is_keyword symbols.Void = true
is_keyword symbols.Bool = true
is_keyword symbols.Complex = true
is_keyword symbols.Imaginary = true
is_keyword symbol = false

-- a keyword of C's types or `const`, which may be in the name of a type
abbrev pub is_type_keyword : Symbol → Bool
is_type_keyword symbols.Const = true
is_type_keyword symbols.Char = true
is_type_keyword symbols.Double = true
is_type_keyword symbols.Float = true
is_type_keyword symbols.Int = true
is_type_keyword symbols.Long = true
is_type_keyword symbols.Short = true
is_type_keyword symbols.Signed = true
is_type_keyword symbols.Unsigned = true
is_type_keyword symbols.Void = true
is_type_keyword symbols.Bool = true
is_type_keyword symbols.Complex = true
is_type_keyword symbols.Imaginary = true
is_type_keyword symbol = false

-- they are the same symbol
abbrev pub is_same : Symbol → Symbol → Bool
is_same symbols.Align symbols.Align = true
is_same symbols.Callsite symbols.Callsite = true
is_same symbols.Clock symbols.Clock = true
is_same symbols.Enum symbols.Enum = true
is_same symbols.Env symbols.Env = true
is_same symbols.Event symbols.Event = true
is_same symbols.FloatingPoint symbols.FloatingPoint = true
is_same symbols.Integer symbols.Integer = true
is_same symbols.Stream symbols.Stream = true
is_same symbols.String symbols.String = true
is_same symbols.Struct symbols.Struct = true
is_same symbols.Trace symbols.Trace = true
is_same symbols.Typealias symbols.Typealias = true
is_same symbols.Typedef symbols.Typedef = true
is_same symbols.Variant symbols.Variant = true
is_same symbols.Const symbols.Const = true
is_same symbols.Char symbols.Char = true
is_same symbols.Double symbols.Double = true
is_same symbols.Float symbols.Float = true
is_same symbols.Int symbols.Int = true
is_same symbols.Long symbols.Long = true
is_same symbols.Short symbols.Short = true
is_same symbols.Signed symbols.Signed = true
is_same symbols.Unsigned symbols.Unsigned = true
is_same symbols.Void symbols.Void = true
is_same symbols.Bool symbols.Bool = true
is_same symbols.Complex symbols.Complex = true
is_same symbols.Imaginary symbols.Imaginary = true
is_same symbols.OpenBrace symbols.OpenBrace = true
is_same symbols.CloseBrace symbols.CloseBrace = true
is_same symbols.OpenBracket symbols.OpenBracket = true
is_same symbols.CloseBracket symbols.CloseBracket = true
is_same symbols.OpenParen symbols.OpenParen = true
is_same symbols.CloseParen symbols.CloseParen = true
is_same symbols.Less symbols.Less = true
is_same symbols.Greater symbols.Greater = true
is_same symbols.Semicolon symbols.Semicolon = true
is_same symbols.Colon symbols.Colon = true
is_same symbols.Comma symbols.Comma = true
is_same symbols.Dot symbols.Dot = true
is_same symbols.Ellipsis symbols.Ellipsis = true
is_same symbols.Equals symbols.Equals = true
is_same symbols.Assign symbols.Assign = true
is_same symbols.Plus symbols.Plus = true
is_same symbols.Minus symbols.Minus = true
is_same first second = false

-- it is that symbol
abbrev pub is_symbol : Symbol → TokenKind → Bool
is_symbol symbol kinds.Identifier = false
is_symbol symbol (kinds.Constant value) = false
is_symbol symbol kinds.String = false
is_symbol symbol (kinds.Symbol other) = is_same other symbol

-- an identifier or a keyword
abbrev pub is_word : TokenKind → Bool
is_word kinds.Identifier = true
is_word (kinds.Constant value) = false
is_word kinds.String = false
is_word (kinds.Symbol symbol) = is_keyword symbol

-- an identifier, `const` or a keyword of C's types
abbrev pub is_typeword : TokenKind → Bool
is_typeword kinds.Identifier = true
is_typeword (kinds.Constant value) = false
is_typeword kinds.String = false
is_typeword (kinds.Symbol symbol) = is_type_keyword symbol

abbrev pub is_identifier : TokenKind → Bool
is_identifier kinds.Identifier = true
is_identifier (kinds.Constant value) = false
is_identifier kinds.String = false
is_identifier (kinds.Symbol symbol) = false

abbrev pub is_string : TokenKind → Bool
is_string kinds.Identifier = false
is_string (kinds.Constant value) = false
is_string kinds.String = true
is_string (kinds.Symbol symbol) = false

-- the value of a constant
abbrev pub constant_of : TokenKind → Option ℕ
constant_of kinds.Identifier = None
constant_of (kinds.Constant value) = Some value
constant_of kinds.String = None
constant_of (kinds.Symbol symbol) = None
