-- Facts on classes of bytes: by a table below 128, and none of the classes has a byte from 128 on.
use Rattle.std.proofs.Common.{◌≡◌, ℕ, ◌<◌, ◌≤◌, Bool, true, false, not, ◌&&◌, ◌||◌, refl, ap, ◌∙◌, arith, ⊎_elim, eqb, ltb, leb}
use Rattle.std.specs.Char.{is_digit, digit_value, is_ascii_digit}
use Rattle.std.proofs.lemmas.Bool.{ne_eqb, le-ltb, lt-leb, cases_lt, agree_below, agree_below_at, and_right, ltb-true, lt-ltb, not-true, or_from}
use Rattle.tsdl_text.specs.Bytes.{is_blank, is_word_start, is_word_byte}

-- one class within another
abbrev implies : Bool → Bool → Bool
implies a b = not a || b

implied : (a b : Bool) → implies a b ≡ true → a ≡ true → b ≡ true
implied true b h e = h
implied false b h e = absurd cc

-- a test that holds below 128, and whose premise fails from there on, holds always
by_table : (p q : ℕ → Bool) → agree_below (λ b. implies (p b) (q b)) (λ b. true) 128 ≡ true → ((b : ℕ) → 128 ≤ b → p b ≡ false) → (b : ℕ) → p b ≡ true → q b ≡ true
by_table p q table above b e =
    ⊎_elim
    (λ h. implied (p b) (q b) (agree_below_at (λ b. implies (p b) (q b)) (λ b. true) 128 b table h) e)
    (λ h. let f = above b h in absurd cc)
    (cases_lt b 128)

-- ---- nothing from 128 on

digit_value_high : (b : ℕ) → 128 ≤ b → digit_value b ≡ 36
digit_value_high b h =
    let a : ltb b 48 ≡ false = le-ltb b 48 (omega arith) in
    let c : ltb b 58 ≡ false = le-ltb b 58 (omega arith) in
    let d : ltb b 65 ≡ false = le-ltb b 65 (omega arith) in
    let e : ltb b 91 ≡ false = le-ltb b 91 (omega arith) in
    let f : ltb b 97 ≡ false = le-ltb b 97 (omega arith) in
    let g : ltb b 123 ≡ false = le-ltb b 123 (omega arith) in
    rw (a, c, d, e, f, g) refl

digit_high : (base b : ℕ) → base ≤ 36 → 128 ≤ b → is_digit b base ≡ false
digit_high base b k h = ap (λ n. ltb n base) (digit_value_high b h) ∙ le-ltb 36 base k

above : (b k : ℕ) → 128 ≤ b → k < 128 → leb b k ≡ false
above b k h l = lt-leb b k (omega arith)

is_other : (b k : ℕ) → 128 ≤ b → k < 128 → eqb b k ≡ false
is_other b k h l = ne_eqb b k (λ e. absurd (omega arith))

range_high : (low high b : ℕ) → 128 ≤ b → high < 128 → (leb low b && leb b high) ≡ false
range_high low high b h l = and_right (leb low b) (leb b high) (above b high h l)

start_high : (b : ℕ) → 128 ≤ b → is_word_start b ≡ false
unfolding is_word_start
start_high b h =
    or_from _ _ (or_from _ _ (range_high 65 90 b h (omega arith)) (range_high 97 122 b h (omega arith))) (is_other b 95 h (omega arith))

word_high : (b : ℕ) → 128 ≤ b → is_word_byte b ≡ false
unfolding is_word_byte
word_high b h =
    or_from _ _ (or_from _ _ (or_from _ _ (range_high 48 57 b h (omega arith)) (range_high 65 90 b h (omega arith))) (range_high 97 122 b h (omega arith))) (is_other b 95 h (omega arith))

ascii_digit_high : (b : ℕ) → 128 ≤ b → is_ascii_digit b ≡ false
ascii_digit_high b h = range_high 48 57 b h (omega arith)

-- ---- classes within classes

pub start_is_word : (b : ℕ) → is_word_start b ≡ true → is_word_byte b ≡ true
unfolding is_word_start is_word_byte
start_is_word b e = by_table is_word_start is_word_byte refl start_high b e

-- the first byte of a word is neither a blank nor `/`
pub start_is_apart : (b : ℕ) → is_word_start b ≡ true → (is_blank b ≡ false) × (eqb b 47 ≡ false)
unfolding is_word_start is_blank
start_is_apart b e = (not-true _ (by_table is_word_start (λ c. not (is_blank c)) refl start_high b e), not-true _ (by_table is_word_start (λ c. not (eqb c 47)) refl start_high b e))

pub digit_is_apart : (b : ℕ) → is_ascii_digit b ≡ true → (is_blank b ≡ false) × (eqb b 47 ≡ false) × (is_word_start b ≡ false) × (is_word_byte b ≡ true)
unfolding is_word_start is_blank is_word_byte
digit_is_apart b e = (
  not-true _ (by_table is_ascii_digit (λ c. not (is_blank c)) refl ascii_digit_high b e),
  not-true _ (by_table is_ascii_digit (λ c. not (eqb c 47)) refl ascii_digit_high b e),
  not-true _ (by_table is_ascii_digit (λ c. not (is_word_start c)) refl ascii_digit_high b e),
  by_table is_ascii_digit is_word_byte refl ascii_digit_high b e,
)

-- a digit of a base is a letter or a digit
pub digit_is_word : (base b : ℕ) → base ≤ 16 → is_digit b base ≡ true → is_word_byte b ≡ true
unfolding is_word_byte
digit_is_word base b h e = let d = ltb-true (digit_value b) base e in by_table (λ c. is_digit c 16) is_word_byte refl (λ c k. digit_high 16 c (omega arith) k) b (lt-ltb (digit_value b) 16 (omega arith))

pub decimal_is_digit : (b : ℕ) → is_digit b 10 ≡ true → is_ascii_digit b ≡ true
decimal_is_digit b e = by_table (λ c. is_digit c 10) is_ascii_digit refl (λ c k. digit_high 10 c (omega arith) k) b e

-- a byte of words begins a word or is a digit
pub word_is : (b : ℕ) → is_word_start b ≡ false → is_ascii_digit b ≡ false → is_word_byte b ≡ false
unfolding is_word_start is_word_byte
word_is b e d = split (leb 48 b && leb b 57) (leb 65 b && leb b 90) (leb 97 b && leb b 122) (eqb b 95) e d
  where
    split : (digit upper lower underscore : Bool) → ((upper || lower) || underscore) ≡ false → digit ≡ false → (((digit || upper) || lower) || underscore) ≡ false
    split false false false false e d = refl
    split false true lower underscore e d = absurd cc
    split false false true underscore e d = absurd cc
    split false false false true e d = absurd cc
    split true upper lower underscore e d = absurd cc
