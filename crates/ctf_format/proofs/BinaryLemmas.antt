-- Bits, sixteen at a time.
use Rattle.std.proofs.Common.{◌≡◌, ℕ, zero, suc, ◌+◌, ◌-◌, ◌*◌, ◌/◌, ◌%◌, ◌^◌, ◌<◌, ◌≤◌, not, cond, nat_eq, leb, List, [], ◌∷◌, ◌++◌, length, take, bit_and, refl, sym, ap, ◌∙◌, arith, append_assoc}
use Rattle.std.proofs.Math.Seq.{take-append-add}
use Rattle.std.proofs.lemmas.List.{take-take, take-append-le, take_all}
use Rattle.std.proofs.lemmas.Bool.Decides.{nat_tests}
use Rattle.std.proofs.lemmas.Nat.{pow_pos, field_of, shl-shr, shr-shr, shr_split}
use Rattle.std.proofs.lemmas.Nat.Bits.{and_pow, bit_at-lt, bit_at_cat_low}
use Rattle.std.specs.Int.{bit_at}
use Rattle.ctf_format.specs.Numbers.{bit_digits}

pub length-bit_digits : (k n : ℕ) → length (bit_digits k n) ≡ k
length-bit_digits zero n = refl
length-bit_digits (suc k) n = ap suc (length-bit_digits k n)

-- the highest digits, and then the lowest
pub digits_split : (a b n : ℕ) → bit_digits (a + b) n ≡ bit_digits a (n / 2 ^ b) ++ bit_digits b n
digits_split zero b n =
    let none : 0 + b ≡ b = omega arith in
    ap (λ k. bit_digits k n) none
digits_split (suc a) b n =
    let order : b + a ≡ a + b = omega arith in
    let place : n / 2 ^ b / 2 ^ a ≡ n / 2 ^ (a + b) = shr-shr n b a ∙ ap (λ e. n / 2 ^ e) order in
    let count : suc a + b ≡ suc (a + b) = omega arith in
    let rest = digits_split a b n in
    ap (λ k. bit_digits k n) count ∙ (λ i. (48 + sym place i % 2) ∷ rest i)

-- bits above those that are shown do not count
low_bit : (whole n i : ℕ) → i < whole → bit_at (n % 2 ^ whole) i ≡ bit_at n i
low_bit whole n i below = sym (bit_at_cat_low (n / 2 ^ whole) whole (n % 2 ^ whole) i below) ∙ ap (λ m. bit_at m i) (shr_split n whole)

pub low_digits : (k whole n : ℕ) → k ≤ whole → bit_digits k (n % 2 ^ whole) ≡ bit_digits k n
low_digits zero whole n few = refl
low_digits (suc k) whole n few =
    let bit = low_bit whole n k (omega arith) in
    let rest = low_digits k whole n (omega arith) in
    λ i. (48 + bit i) ∷ rest i

-- sixteen digits more are written
pub sixteen_more : (line more before piece : List ℕ) (moved i at : ℕ) → i < 4 → take (at + 16 * i) line ≡ before ++ bit_digits (16 * i) (moved / 2 ^ (64 - 16 * i)) → piece ≡ bit_digits 16 (moved / 2 ^ (48 - 16 * i))
    → take (at + 16 * i + 16) more ≡ take (at + 16 * i) line ++ piece → take (at + 16 * (i + 1)) more ≡ before ++ bit_digits (16 * (i + 1)) (moved / 2 ^ (64 - 16 * (i + 1)))
sixteen_more line more before piece moved i at few already shows wrote =
    let k = 48 - 16 * i in
    let end : at + 16 * (i + 1) ≡ at + 16 * i + 16 = omega arith in
    let count : 16 * i + 16 ≡ 16 * (i + 1) = omega arith in
    let low : k ≡ 64 - 16 * (i + 1) = omega arith in
    let high : k + 16 ≡ 64 - 16 * i = omega arith in
    let front : moved / 2 ^ k / 2 ^ 16 ≡ moved / 2 ^ (64 - 16 * i) = shr-shr moved k 16 ∙ ap (λ e. moved / 2 ^ e) high in
    let split : bit_digits (16 * i + 16) (moved / 2 ^ k) ≡ bit_digits (16 * i) (moved / 2 ^ (64 - 16 * i)) ++ bit_digits 16 (moved / 2 ^ k) =
    digits_split (16 * i) 16 (moved / 2 ^ k) ∙ ap (λ n. bit_digits (16 * i) n ++ bit_digits 16 (moved / 2 ^ k)) front in
    let all : bit_digits (16 * (i + 1)) (moved / 2 ^ (64 - 16 * (i + 1))) ≡ bit_digits (16 * i) (moved / 2 ^ (64 - 16 * i)) ++ bit_digits 16 (moved / 2 ^ k) =
    (λ j. bit_digits (sym count j) (moved / 2 ^ sym low j)) ∙ split in
    ap (λ n. take n more) end ∙ wrote ∙ (λ j. already j ++ shows j)
    ∙ append_assoc before (bit_digits (16 * i) (moved / 2 ^ (64 - 16 * i))) (bit_digits 16 (moved / 2 ^ k)) ∙ ap (λ xs. before ++ xs) (sym all)

-- the first digits of a number that is moved to the front
moved_digits : (number count : ℕ) → count ≤ 64 → bit_digits count (number * 2 ^ (64 - count) % 2 ^ 64 / 2 ^ (64 - count)) ≡ bit_digits count number
moved_digits number count few =
    let k = 64 - count in
    let whole : 64 ≡ count + k = omega arith in
    let field : number * 2 ^ k % 2 ^ 64 / 2 ^ k ≡ number % 2 ^ count =
    ap (λ e. number * 2 ^ k % 2 ^ e / 2 ^ k) whole ∙ field_of (number * 2 ^ k) count k ∙ ap (λ n. n % 2 ^ count) (shl-shr number k) in
    ap (bit_digits count) field ∙ low_digits count count number (omega arith)

pub all_written : (line before : List ℕ) (number count s at : ℕ) → count ≤ 64 → count ≤ 16 * s → 16 * s ≤ 64 → length before ≡ at
    → take (at + 16 * s) line ≡ before ++ bit_digits (16 * s) (number * 2 ^ (64 - count) % 2 ^ 64 / 2 ^ (64 - 16 * s)) → take (at + count) line ≡ before ++ bit_digits count number
all_written line before number count s at few enough most front wrote =
    let moved = number * 2 ^ (64 - count) % 2 ^ 64 in
    let r = 16 * s - count in
    let m = moved / 2 ^ (64 - 16 * s) in
    let all : 16 * s ≡ count + r = omega arith in
    let place : 64 - 16 * s + r ≡ 64 - count = omega arith in
    let top : m / 2 ^ r ≡ moved / 2 ^ (64 - count) = shr-shr moved (64 - 16 * s) r ∙ ap (λ e. moved / 2 ^ e) place in
    let split : bit_digits (16 * s) m ≡ bit_digits count number ++ bit_digits r m =
    ap (λ n. bit_digits n m) all ∙ digits_split count r m ∙ ap (λ xs. xs ++ bit_digits r m) (ap (bit_digits count) top ∙ moved_digits number count few) in
    let size = length-bit_digits count number in
    let cut : take count (bit_digits count number ++ bit_digits r m) ≡ bit_digits count number =
    take-append-le count (bit_digits count number) (bit_digits r m) (omega arith) ∙ take_all count (bit_digits count number) (omega arith) in
    sym (take-take (at + count) (at + 16 * s) line (omega arith)) ∙ ap (take (at + count)) (wrote ∙ ap (λ xs. before ++ xs) split)
    ∙ ap (λ n. take (n + count) (before ++ (bit_digits count number ++ bit_digits r m))) (sym front)
    ∙ take-append-add before (bit_digits count number ++ bit_digits r m) count ∙ ap (λ xs. before ++ xs) cut

-- ---- in lanes

-- a digit by a mask of one bit
abbrev pub lane : ℕ → ℕ → ℕ
lane byte mask = cond (leb 128 (cond (not (nat_eq (bit_and byte mask) 0)) 255 0)) 49 48

shown : (b p : ℕ) → b < 2 → 0 < p → cond (leb 128 (cond (not (nat_eq (b * p) 0)) 255 0)) 49 48 ≡ 48 + b
shown b p below some = grind (arith, nat_tests)

lane_shown : (byte k : ℕ) → lane byte (2 ^ k) ≡ 48 + bit_at byte k
lane_shown byte k =
    ap (λ n. cond (leb 128 (cond (not (nat_eq n 0)) 255 0)) 49 48) (and_pow byte k) ∙ shown (bit_at byte k) (2 ^ k) (bit_at-lt byte k) (pow_pos k)

high : (n k : ℕ) → k < 8 → lane ((n + 0) / 256 % 256) (2 ^ k) ≡ 48 + bit_at n (8 + k)
high n k few =
    let same : n + 0 ≡ n = omega arith in
    lane_shown ((n + 0) / 256 % 256) k ∙ ap (λ b. 48 + b) (low_bit 8 ((n + 0) / 256) k few ∙ ap (λ m. m % 2) (shr-shr (n + 0) 8 k ∙ ap (λ m. m / 2 ^ (8 + k)) same))

low : (n k : ℕ) → k < 8 → lane ((n + 0) % 256) (2 ^ k) ≡ 48 + bit_at n k
low n k few =
    let same : n + 0 ≡ n = omega arith in
    lane_shown ((n + 0) % 256) k ∙ ap (λ b. 48 + b) (low_bit 8 (n + 0) k few ∙ ap (λ m. bit_at m k) same)

abbrev pub lanes : ℕ → ℕ → List ℕ
lanes a b = lane a 128 ∷ lane a 64 ∷ lane a 32 ∷ lane a 16 ∷ lane a 8 ∷ lane a 4 ∷ lane a 2 ∷ lane a 1 ∷ lane b 128 ∷ lane b 64 ∷ lane b 32 ∷ lane b 16 ∷ lane b 8 ∷ lane b 4 ∷ lane b 2 ∷ lane b 1 ∷ []

pub lanes_shown : (n : ℕ) → lanes ((n + 0) / 256 % 256) ((n + 0) % 256) ≡ bit_digits 16 n
lanes_shown n = λ i.
    high n 7 (omega arith) i ∷ high n 6 (omega arith) i ∷ high n 5 (omega arith) i ∷ high n 4 (omega arith) i ∷ high n 3 (omega arith) i ∷ high n 2 (omega arith) i ∷ high n 1 (omega arith) i ∷ high n 0 (omega arith) i
    ∷ low n 7 (omega arith) i ∷ low n 6 (omega arith) i ∷ low n 5 (omega arith) i ∷ low n 4 (omega arith) i ∷ low n 3 (omega arith) i ∷ low n 2 (omega arith) i ∷ low n 1 (omega arith) i ∷ low n 0 (omega arith) i ∷ []
