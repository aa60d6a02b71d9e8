-- What a reader of a text computes at a place. Laws in proofs/ tie it to the definitions of `Tokens`.
use Rattle.std.specs.Prelude.{ℕ, zero, suc, ◌+◌, ◌^◌, Bool, false, not, ◌&&◌, ◌||◌, ◌==◌, nat_le, if◌then◌else◌, List, [], ◌∷◌, length, take, drop, slice_index, Option, Some, None, option_and_then, codes}
use Rattle.std.specs.Option.{option_map, option_map_or}
use Rattle.std.specs.List.{prefix_len, find}
use Rattle.std.specs.Str.{bytes_eq}
use Rattle.std.specs.Char.{is_ascii_digit}
use Rattle.tsdl_text.specs.declared.token.Symbol.{Symbol}
use Rattle.tsdl_text.specs.declared.token.Symbol.TheVariants as symbols
use Rattle.tsdl_text.specs.declared.token.TokenKind.{TokenKind}
use Rattle.tsdl_text.specs.declared.token.TokenKind.TheVariants as kinds
use Rattle.tsdl_text.specs.declared.lexer.Extent.{Extent}
use Rattle.tsdl_text.specs.Symbols.{spelling}
use Rattle.ctf_list.specs.Prefix.{begins}
use Rattle.tsdl_text.specs.Bytes.{is_blank, is_word_start, is_word_byte, number}
use Rattle.tsdl_text.specs.Constants.{is_suffix}
use Rattle.tsdl_text.specs.Strings.{digit_count, character_at}

-- ---- comments

-- how many bytes there are up to and with the first `*/`
unfoldable pub block_len : List ℕ → Option ℕ
block_len [] = None
block_len (a ∷ text) =
    if bytes_eq (codes "*/") (take 2 (a ∷ text)) then Some 2
    else option_map (λ n. 1 + n) (block_len text)

-- how many bytes there are before the next newline or the end
abbrev pub line_len : List ℕ → ℕ
line_len text = prefix_len (λ b. not (b == 10)) text

-- how many bytes a comment has, after its first `/`
unfoldable pub comment_len : List ℕ → Option ℕ
comment_len [] = None
comment_len (b ∷ text) =
    if b == 42 then option_map (λ n. n + 1) (block_len text)
    else (if b == 47 then Some (1 + line_len text) else None)

-- ---- words

-- how many letters, digits and `_` there are
abbrev pub word_len : List ℕ → ℕ
word_len text = prefix_len is_word_byte text

-- the keywords that begin with this byte
unfoldable pub keywords_with : ℕ → List Symbol
keywords_with b =
    if b == 95 then symbols.Bool ∷ symbols.Complex ∷ symbols.Imaginary ∷ []
    else (if b == 97 then symbols.Align ∷ []
    else (if b == 99 then symbols.Clock ∷ symbols.Char ∷ symbols.Const ∷ symbols.Callsite ∷ []
    else (if b == 100 then symbols.Double ∷ []
    else (if b == 101 then symbols.Event ∷ symbols.Enum ∷ symbols.Env ∷ []
    else (if b == 102 then symbols.Float ∷ symbols.FloatingPoint ∷ []
    else (if b == 105 then symbols.Integer ∷ symbols.Int ∷ []
    else (if b == 108 then symbols.Long ∷ []
    else (if b == 115 then symbols.Struct ∷ symbols.Signed ∷ symbols.String ∷ symbols.Stream
    ∷ symbols.Short ∷ []
    else (if b == 116 then symbols.Typealias ∷ symbols.Typedef ∷ symbols.Trace ∷ []
    else (if b == 117 then symbols.Unsigned ∷ []
    else (if b == 118 then symbols.Variant ∷ symbols.Void ∷ []
    else [])))))))))))

-- the keyword that is spelled so
unfoldable pub keyword_of : List ℕ → Option Symbol
keyword_of word =
    find (λ symbol. bytes_eq (spelling symbol) word) (keywords_with (slice_index word 0))

-- ---- constants

-- the value of digits of a base and a suffix
unfoldable pub unmarked_value : ℕ → List ℕ → Option ℕ
unmarked_value base bytes =
    let count = digit_count base (length bytes) bytes in
    let value = number base (take count bytes) in
    if count == 0 || (not (is_suffix (drop count bytes)) || nat_le (2 ^ 64) value) then None
    else Some value

-- `0x` or `0X` is at the beginning
abbrev pub is_hexadecimal : List ℕ → Bool
is_hexadecimal [] = false
is_hexadecimal (a ∷ []) = false
is_hexadecimal (a ∷ x ∷ bytes) = a == 48 && (x == 120 || x == 88)

abbrev pub begins_with_zero : List ℕ → Bool
begins_with_zero [] = false
begins_with_zero (a ∷ bytes) = a == 48

-- the value that bytes spell as a constant
unfoldable pub constant_value : List ℕ → Option ℕ
constant_value bytes =
    if is_hexadecimal bytes then unmarked_value 16 (drop 2 bytes)
    else unmarked_value (if begins_with_zero bytes then 8 else 10) bytes

-- ---- punctuators

-- the punctuator of this one byte
unfoldable pub single : ℕ → Option Symbol
single b =
    if b == 123 then Some symbols.OpenBrace
    else (if b == 125 then Some symbols.CloseBrace
    else (if b == 91 then Some symbols.OpenBracket
    else (if b == 93 then Some symbols.CloseBracket
    else (if b == 40 then Some symbols.OpenParen
    else (if b == 41 then Some symbols.CloseParen
    else (if b == 60 then Some symbols.Less
    else (if b == 62 then Some symbols.Greater
    else (if b == 59 then Some symbols.Semicolon
    else (if b == 58 then Some symbols.Colon
    else (if b == 44 then Some symbols.Comma
    else (if b == 46 then Some symbols.Dot
    else (if b == 61 then Some symbols.Equals
    else (if b == 43 then Some symbols.Plus
    else (if b == 45 then Some symbols.Minus
    else None))))))))))))))

-- this byte is the first
abbrev pub begins_with : ℕ → List ℕ → Bool
begins_with c text = begins (λ b. b == c) text

-- `...` is at the beginning
abbrev pub is_ellipsis : List ℕ → Bool
is_ellipsis text =
    begins_with 46 text && (begins_with 46 (drop 1 text) && begins_with 46 (drop 2 text))

-- `:=` is at the beginning
abbrev pub is_assign : List ℕ → Bool
is_assign text = begins_with 58 text && begins_with 61 (drop 1 text)

abbrev pub first_single : List ℕ → Option Symbol
first_single [] = None
first_single (b ∷ text) = single b

-- the next punctuator, and how many bytes it has
unfoldable pub punctuator_at : List ℕ → Option (Symbol × ℕ)
punctuator_at text =
    if is_ellipsis text then Some (symbols.Ellipsis, 3)
    else (if is_assign text then Some (symbols.Assign, 2)
    else option_map (λ symbol. (symbol, 1)) (first_single text))

-- ---- strings

-- how many bytes there are up to and with the closing quote, in at most so many characters
unfoldable pub closing_len : ℕ → List ℕ → Option ℕ
closing_len zero text = None
closing_len (suc turns) text =
    if begins_with 34 text then Some 1
    else option_and_then (λ x. option_map (λ n. x.1 + n) (closing_len turns (drop x.1 text)))
    (character_at text)

-- how many bytes a string has, after its first quote
unfoldable pub string_len : List ℕ → Option ℕ
string_len text = closing_len (length text) text

-- ---- a place in a text

-- what kind of word this is
unfoldable pub word_kind : List ℕ → TokenKind
word_kind word = option_map_or kinds.Symbol (keyword_of word) kinds.Identifier

-- the kind of the next token, and how many bytes it has
unfoldable pub token_at : List ℕ → Option (TokenKind × ℕ)
token_at [] = None
token_at (b ∷ text) =
    let len = word_len (b ∷ text) in
    let word = take len (b ∷ text) in
    if is_word_start b then Some (word_kind word, len)
    else (if is_ascii_digit b
    then option_map (λ value. (kinds.Constant value, len)) (constant_value word)
    else (if b == 34 then option_map (λ n. (kinds.String, 1 + n)) (string_len text)
    else option_map (λ x. (kinds.Symbol x.0, x.1)) (punctuator_at (b ∷ text))))

abbrev pub skipped : ℕ → Extent
skipped len = record { kind = None; len = len }

abbrev pub token_of : TokenKind × ℕ → Extent
token_of x = record { kind = Some x.0; len = x.1 }

-- the next piece: its kind, if it is a token, and how many bytes it has
unfoldable pub piece_at : List ℕ → Option Extent
piece_at [] = None
piece_at (b ∷ text) =
    if is_blank b then Some (skipped 1)
    else (if b == 47 then option_map (λ n. skipped (1 + n)) (comment_len text)
    else option_map token_of (token_at (b ∷ text)))
