-- Digits, the last one apart.
use Rattle.std.proofs.Common.{◌≡◌, ℕ, zero, suc, ◌+◌, ◌*◌, ◌/◌, ◌%◌, ◌^◌, ◌<◌, ◌≤◌, Bool, true, false, cond, eqb, List, [], ◌∷◌, ◌++◌, length, refl, sym, ap, ◌∙◌, ⊎_elim, ◌≢◌, take, set, arith, length-append, append_assoc, eq-zero-or-pos}
use Rattle.std.proofs.lemmas.Bool.{lt-ltb}
use Rattle.std.proofs.lemmas.Grind.{take-set_at}
use Rattle.std.proofs.Math.Nat.{div-eq_of_lt, div-lt_iff_lt-mul, mul-le-mul_left, pow-suc, pow-zero}
use Rattle.std.specs.Fmt.{digits, digits_onto, digit_glyph}
use borrow.Author.Tests.{eq-eqb, ne_eqb}

digits_onto-nil : (base n : ℕ) → digits_onto 64 base true n [] ≡ digits base true n
unfolding digits
digits_onto-nil base n = refl

module _ (base n : ℕ) (acc : List ℕ) where
  spelled : (k : ℕ) (t : Bool) → eqb (n / base) 0 ≡ t → digits_onto (suc k) base true n acc ≡ cond t (digit_glyph true (n % base) ∷ acc) (digits_onto k base true (n / base) (digit_glyph true (n % base) ∷ acc))
  spelled k t e = ap (λ (b : Bool). cond b (digit_glyph true (n % base) ∷ acc) (digits_onto k base true (n / base) (digit_glyph true (n % base) ∷ acc))) e

  onto_last : (k : ℕ) → n / base ≡ 0 → digits_onto (suc k) base true n acc ≡ digit_glyph true (n % base) ∷ acc
  onto_last k e = spelled k true (eq-eqb _ 0 e)

  onto_step : (k : ℕ) → (n / base ≡ 0 → ⊥) → digits_onto (suc k) base true n acc ≡ digits_onto k base true (n / base) (digit_glyph true (n % base) ∷ acc)
  onto_step k h = spelled k false (ne_eqb _ 0 h)

-- a choice of two lists, each with the same after it
cond_append : (b : Bool) (xs ys more : List ℕ) → cond b (xs ++ more) (ys ++ more) ≡ cond b xs ys ++ more
cond_append true xs ys more = refl
cond_append false xs ys more = refl

-- what is after the digits stays there
pub onto_append : (k base n : ℕ) (acc more : List ℕ) → digits_onto k base true n (acc ++ more) ≡ digits_onto k base true n acc ++ more
onto_append zero base n acc more = refl
onto_append (suc k) base n acc more =
    let glyph = digit_glyph true (n % base) in
    let rest = onto_append k base (n / base) (glyph ∷ acc) more in
    ap (λ xs. cond (eqb (n / base) 0) (glyph ∷ (acc ++ more)) xs) rest ∙ cond_append (eqb (n / base) 0) (glyph ∷ acc) (digits_onto k base true (n / base) (glyph ∷ acc)) more

half : (base n p : ℕ) → 2 ≤ base → n < 2 * p → n / base < p
half base n p two small =
    let some : 0 < base = omega arith in
    let more = mul-le-mul_left p two in
    (div-lt_iff_lt-mul {k = base} {x = n} {y = p} some).1 (omega arith)

-- one digit more at the most changes nothing where all are there
pub onto_enough : (k base n : ℕ) (acc : List ℕ) → 2 ≤ base → n < 2 ^ suc k → digits_onto (suc k) base true n acc ≡ digits_onto (suc (suc k)) base true n acc
onto_enough zero base n acc two small =
    let none : n / base ≡ 0 = div-eq_of_lt {n = n} {m = base} (omega arith) in
    onto_last base n acc 0 none ∙ sym (onto_last base n acc 1 none)
onto_enough (suc k) base n acc two small =
    let glyph = digit_glyph true (n % base) in
    ap (cond (eqb (n / base) 0) (glyph ∷ acc)) (onto_enough k base (n / base) (glyph ∷ acc) two (half base n (2 ^ suc k) two (omega (arith, pow-suc 2 (suc k)))))

pub digits_last : (base n : ℕ) → n / base ≡ 0 → digits base true n ≡ digit_glyph true (n % base) ∷ []
digits_last base n none = sym (digits_onto-nil base n) ∙ onto_last base n [] 63 none

pub digits_more : (base n : ℕ) → 2 ≤ base → n < 2 ^ 64 → 0 < n / base → digits base true n ≡ digits base true (n / base) ++ digit_glyph true (n % base) ∷ []
digits_more base n two small some =
    let glyph = digit_glyph true (n % base) in
    let front = half base n (2 ^ 63) two (omega arith) in
    sym (digits_onto-nil base n) ∙ onto_step base n [] 63 (λ none. omega arith)
    ∙ onto_append 63 base (n / base) [] (glyph ∷ [])
    ∙ ap (λ xs. xs ++ glyph ∷ []) (onto_enough 62 base (n / base) [] two front ∙ digits_onto-nil base (n / base))

more_at : (base n : ℕ) → 2 ≤ base → n < 2 ^ 64 → n / base ≢ 0 → digits base true n ≡ digits base true (n / base) ++ digit_glyph true (n % base) ∷ []
more_at base n two small more = digits_more base n two small (omega (arith, more))

pub length_digits : (j base n : ℕ) → 2 ≤ base → n < 2 ^ 64 → n < base ^ suc j → length (digits base true n) ≤ suc j
length_digits zero base n two small fits =
    let first : base ^ 1 ≡ 1 * base = pow-suc base 0 ∙ ap (λ m. m * base) (pow-zero base) in
    let none : n / base ≡ 0 = div-eq_of_lt {n = n} {m = base} (omega arith) in
    omega (arith, ap length (digits_last base n none))
length_digits (suc i) base n two small fits =
    let shorter = length_digits i base (n / base) two (omega arith) ((div-lt_iff_lt-mul {k = base} {x = n} {y = base ^ suc i} (omega arith)).1 (omega (arith, pow-suc base (suc i)))) in
    ⊎_elim
    (λ none. omega (arith, ap length (digits_last base n none)))
    (λ some. omega (arith, ap length (digits_more base n two small some), length-append (digits base true (n / base)) (digit_glyph true (n % base) ∷ [])))
    (eq-zero-or-pos (n / base))

-- the digits in front of the last one have room where all have
pub room_for_front : (base n at size : ℕ) → 2 ≤ base → n < 2 ^ 64 → n / base ≢ 0 → at + length (digits base true n) ≤ size → at + length (digits base true (n / base)) < size
room_for_front base n at size two small more room =
    omega (arith, ap length (more_at base n two small more), length-append (digits base true (n / base)) (digit_glyph true (n % base) ∷ []))

pub room_for_last : (base n at size : ℕ) → n / base ≡ 0 → at + length (digits base true n) ≤ size → at < size
room_for_last base n at size none room = omega (arith, ap length (digits_last base n none))

pub last_written : (line : List ℕ) (base n at digit : ℕ) → n / base ≡ 0 → at < length line → digit ≡ digit_glyph true (n % base) → take (at + 1) (set line at digit) ≡ take at line ++ digits base true n
last_written line base n at digit none within is =
    take-set_at line at (at + 1) digit refl within ∙ ap (λ d. take at line ++ d ∷ []) is ∙ ap (λ xs. take at line ++ xs) (sym (digits_last base n none))

pub more_written : (line before : List ℕ) (base n at to digit : ℕ) → 2 ≤ base → n < 2 ^ 64 → n / base ≢ 0 → to < length line → digit ≡ digit_glyph true (n % base) → take to line ≡ take at before ++ digits base true (n / base) → take (to + 1) (set line to digit) ≡ take at before ++ digits base true n
more_written line before base n at to digit two small more within is front =
    let glyph = digit_glyph true (n % base) in
    take-set_at line to (to + 1) digit refl within ∙ (λ i. front i ++ is i ∷ []) ∙ append_assoc (take at before) (digits base true (n / base)) (glyph ∷ [])
    ∙ ap (λ xs. take at before ++ xs) (sym (more_at base n two small more))

pub length_last : (base n : ℕ) → n / base ≡ 0 → length (digits base true n) ≡ 1
length_last base n none = ap length (digits_last base n none)

pub length_more : (base n : ℕ) → 2 ≤ base → n < 2 ^ 64 → n / base ≢ 0 → length (digits base true n) ≡ length (digits base true (n / base)) + 1
length_more base n two small more =
    ap length (more_at base n two small more) ∙ length-append (digits base true (n / base)) (digit_glyph true (n % base) ∷ [])

-- the last digit in octal
pub low_glyph : (n : ℕ) → 48 + n % 8 ≡ digit_glyph true (n % 8)
low_glyph n = ap (λ b. cond b (48 + n % 8) (55 + n % 8)) (sym (lt-ltb (n % 8) 10 (omega arith)))

-- numbers of 64 bits in hexadecimal and in octal
pub length_hexadecimal : (n : ℕ) → n < 2 ^ 64 → length (digits 16 true n) ≤ 16
length_hexadecimal n small = length_digits 15 16 n (omega arith) small small

pub length_octal : (n : ℕ) → n < 2 ^ 64 → length (digits 8 true n) ≤ 22
length_octal n small = length_digits 21 8 n (omega arith) small (omega arith)
