-- Symbols are told from one another.
use Rattle.std.proofs.Common.{◌≡◌, true, refl, ap, ◌∙◌}
use Rattle.std.specs.Prelude.{◌↔◌}
use Rattle.std.proofs.lemmas.Bool.{false≢true}
use Rattle.tsdl_text.specs.declared.token.Symbol.{Symbol}
use Rattle.tsdl_text.specs.declared.token.Symbol.TheVariants as symbols
use Rattle.tsdl_text.specs.declared.token.TokenKind.{TokenKind}
use Rattle.tsdl_text.specs.declared.token.TokenKind.TheVariants as kinds
use Rattle.tsdl_text.specs.Symbols.{is_same, is_symbol}

pub same_true : (a b : Symbol) → is_same a b ≡ true → a ≡ b
same_true symbols.Align symbols.Align e = refl
same_true symbols.Callsite symbols.Callsite e = refl
same_true symbols.Clock symbols.Clock e = refl
same_true symbols.Enum symbols.Enum e = refl
same_true symbols.Env symbols.Env e = refl
same_true symbols.Event symbols.Event e = refl
same_true symbols.FloatingPoint symbols.FloatingPoint e = refl
same_true symbols.Integer symbols.Integer e = refl
same_true symbols.Stream symbols.Stream e = refl
same_true symbols.String symbols.String e = refl
same_true symbols.Struct symbols.Struct e = refl
same_true symbols.Trace symbols.Trace e = refl
same_true symbols.Typealias symbols.Typealias e = refl
same_true symbols.Typedef symbols.Typedef e = refl
same_true symbols.Variant symbols.Variant e = refl
same_true symbols.Const symbols.Const e = refl
same_true symbols.Char symbols.Char e = refl
same_true symbols.Double symbols.Double e = refl
same_true symbols.Float symbols.Float e = refl
same_true symbols.Int symbols.Int e = refl
same_true symbols.Long symbols.Long e = refl
same_true symbols.Short symbols.Short e = refl
same_true symbols.Signed symbols.Signed e = refl
same_true symbols.Unsigned symbols.Unsigned e = refl
same_true symbols.Void symbols.Void e = refl
same_true symbols.Bool symbols.Bool e = refl
same_true symbols.Complex symbols.Complex e = refl
same_true symbols.Imaginary symbols.Imaginary e = refl
same_true symbols.OpenBrace symbols.OpenBrace e = refl
same_true symbols.CloseBrace symbols.CloseBrace e = refl
same_true symbols.OpenBracket symbols.OpenBracket e = refl
same_true symbols.CloseBracket symbols.CloseBracket e = refl
same_true symbols.OpenParen symbols.OpenParen e = refl
same_true symbols.CloseParen symbols.CloseParen e = refl
same_true symbols.Less symbols.Less e = refl
same_true symbols.Greater symbols.Greater e = refl
same_true symbols.Semicolon symbols.Semicolon e = refl
same_true symbols.Colon symbols.Colon e = refl
same_true symbols.Comma symbols.Comma e = refl
same_true symbols.Dot symbols.Dot e = refl
same_true symbols.Ellipsis symbols.Ellipsis e = refl
same_true symbols.Equals symbols.Equals e = refl
same_true symbols.Assign symbols.Assign e = refl
same_true symbols.Plus symbols.Plus e = refl
same_true symbols.Minus symbols.Minus e = refl
same_true a b e = absurd (false≢true e)

pub same_refl : (a : Symbol) → is_same a a ≡ true
same_refl symbols.Align = refl
same_refl a = refl

pub symbols_are_compared : (symbol : Symbol) (kind : TokenKind) → (is_symbol symbol kind ≡ true) ↔ (kind ≡ kinds.Symbol symbol)
symbols_are_compared symbol kinds.Identifier = (λ e. absurd cc, λ e. absurd cc)
symbols_are_compared symbol (kinds.Constant value) = (λ e. absurd cc, λ e. absurd cc)
symbols_are_compared symbol kinds.String = (λ e. absurd cc, λ e. absurd cc)
symbols_are_compared symbol (kinds.Symbol other) = (
  λ e. ap kinds.Symbol (same_true other symbol e),
  λ e. ap (is_symbol symbol) e ∙ same_refl symbol,
)
