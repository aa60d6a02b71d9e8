-- What the standard library reads of digits.
use Rattle.std.proofs.Common.{◌≡◌, ◌≢◌, ◌<◌, ◌^◌, ◌==◌, ◌&&◌, ℕ, Bool, true, false, List, [], ◌∷◌, Option, Some, None, Result, Ok, Err, refl, arith, length, get_or, nat_lt, cond, IfSome, sym, ap}
use Rattle.std.proofs.lemmas.Str.Parse.{IsNumeralModel, numerals_by_value, tells_all_ascii_digits, parse_plain, digits_value_short}
use Rattle.std.proofs.lemmas.Grind.{common_steps}
use Rattle.std.specs.Result.{OkIff, result_ok}
use Rattle.std.specs.Str.{all_ascii_digits}
use Rattle.std.specs.Str.Parse.{ParsesUnsigned, digits_value, starts_with_minus}
use Rattle.ctf_options.specs.Numbers.{number_in, is_digits}

own : IsNumeralModel (λ text. all_ascii_digits text ≡ true) (digits_value 10)
own = numerals_by_value _ tells_all_ascii_digits

by_test : {E : Type 0} (text : List ℕ) (r : Result ℕ E)
    → OkIff r ((all_ascii_digits text ≡ true) × (0 < length text) × (digits_value 10 text < 2 ^ 64)) (digits_value 10 text)
    → result_ok r ≡ number_in text
by_test text (Ok n) h = grind (arith, common_steps, h.0.0, h.0.1, h.0.2, h.1)
by_test text (Err e) h = grind (arith, common_steps, h)

pub number_read : {E : Type 0} (text : List ℕ) (r : Result ℕ E) → ParsesUnsigned 64 10 text r → get_or text 0 0 ≢ 43 → result_ok r ≡ number_in text
number_read text r h plain = by_test text r (parse_plain own 64 text r h plain)

no_digit : (value : ℕ) (n : ℕ) → cond (nat_lt 0 n && false && nat_lt value (2 ^ 64)) (Some value) None ≡ None
no_digit value n = grind (arith, common_steps)

-- a plus is no digit
pub no_plus : (text : List ℕ) → get_or text 0 0 ≡ 43 → number_in text ≡ None
no_plus [] e = refl
no_plus (c ∷ cs) e = rw e (no_digit _ _)

kept : (b : Bool) (value n : ℕ) → cond b (Some value) None ≡ Some n → (b ≡ true) × (value ≡ n)
kept true value n e = (refl, grind (arith, common_steps, e))
kept false value n e = grind (arith, common_steps, e)

-- so many digits write a number below a power of ten
pub number_small : (text : List ℕ) (count n : ℕ) → length text ≡ count → number_in text ≡ Some n → n < 10 ^ count
number_small text count n long e =
    let is = kept (is_digits text && nat_lt (digits_value 10 text) (2 ^ 64)) (digits_value 10 text) n e in
    let digits : all_ascii_digits text ≡ true = grind (arith, common_steps, is.0) in
    let short : digits_value 10 text < 10 ^ count = digits_value_short own text count digits (omega arith) in
    rw (← is.1) short

pub numbers_small : (text : List ℕ) (count : ℕ) (r : Option ℕ) → length text ≡ count → r ≡ number_in text → IfSome r (λ n. n < 10 ^ count)
numbers_small text count None long e = tt
numbers_small text count (Some n) long e = number_small text count n long (sym e)

-- a text without a minus in front
pub no_minus : (text : List ℕ) → ((rest : List ℕ) → text ≢ 45 ∷ rest) → starts_with_minus text ≡ false
no_minus [] h = refl
no_minus (c ∷ cs) h = unlike c (λ e. h cs (ap (λ b. b ∷ cs) e))
  where
    unlike : (c : ℕ) → c ≢ 45 → (c == 45) ≡ false
    unlike c h = grind (arith, common_steps, h)
