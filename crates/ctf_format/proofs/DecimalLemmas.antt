-- Numbers in decimal, four digits at a time.
use Rattle.std.proofs.Common.{◌≡◌, ℕ, zero, suc, ◌+◌, ◌-◌, ◌*◌, ◌/◌, ◌%◌, ◌^◌, ◌<◌, ◌≤◌, Bool, true, false, nat_lt, if◌then◌else◌, w32, List, [], ◌∷◌, ◌++◌, length, take, refl, sym, ap, ◌∙◌, arith, length-append, append_assoc}
use Rattle.std.proofs.Math.Seq.{take-append-add}
use Rattle.std.proofs.lemmas.List.{take-take, length-take-le}
use Rattle.std.specs.Fmt.{decimal}
use Rattle.std.specs.Int.{to_le_bytes}
use Rattle.std.specs.Int.Count.{count_leading_zeros, leading_unique}
use Rattle.std.proofs.lemmas.Bool.{ltb-true, ltb-false}
use Rattle.ctf_digits.specs.Fours.{four, missing, few}
use Rattle.ctf_format.proofs.Chains as chains
use Rattle.std.proofs.lemmas.Fmt.{decimal_digit, decimal_step}

pub length_more : (n : ℕ) → 10 ≤ n → n < 2 ^ 64 → length (decimal n) ≡ length (decimal (n / 10)) + 1
length_more n high fits = ap length (decimal_step n high fits) ∙ length-append (decimal (n / 10)) ((48 + n % 10) ∷ [])

pub length_four : (n : ℕ) → 10000 ≤ n → n < 2 ^ 64 → length (decimal n) ≡ length (decimal (n / 10000)) + 4
length_four n high fits =
    let two : n / 10 / 10 ≡ n / 100 = omega arith in
    let three : n / 100 / 10 ≡ n / 1000 = omega arith in
    let fourth : n / 1000 / 10 ≡ n / 10000 = omega arith in
    let a = length_more n (omega arith) fits in
    let b = length_more (n / 10) (omega arith) (omega arith) ∙ ap (λ m. length (decimal m) + 1) two in
    let c = length_more (n / 100) (omega arith) (omega arith) ∙ ap (λ m. length (decimal m) + 1) three in
    let d = length_more (n / 1000) (omega arith) (omega arith) ∙ ap (λ m. length (decimal m) + 1) fourth in
    omega arith

pub length_eight : (n : ℕ) → 100000000 ≤ n → n < 2 ^ 64 → length (decimal n) ≡ length (decimal (n / 100000000)) + 8
length_eight n high fits =
    let same : n / 10000 / 10000 ≡ n / 100000000 = omega arith in
    let upper = length_four (n / 10000) (omega arith) (omega arith) ∙ ap (λ m. length (decimal m) + 4) same in
    let lower = length_four n (omega arith) fits in
    omega arith

-- ---- four digits in a word

-- the bytes of a word of four
bytes_are : (a b c d : ℕ) → a < 256 → b < 256 → c < 256 → d < 256 → to_le_bytes w32 (a + b * 2 ^ 8 + c * 2 ^ 16 + d * 2 ^ 24) ≡ a ∷ b ∷ c ∷ d ∷ []
bytes_are a b c d p q r s =
    let word = a + b * 2 ^ 8 + c * 2 ^ 16 + d * 2 ^ 24 in
    let first : word % 256 ≡ a = omega (arith, p, q, r, s) in
    let second : word / 256 % 256 ≡ b = omega (arith, p, q, r, s) in
    let third : word / 65536 % 256 ≡ c = omega (arith, p, q, r, s) in
    let fourth : word / 16777216 % 256 ≡ d = omega (arith, p, q, r, s) in
    λ i. first i ∷ second i ∷ third i ∷ fourth i ∷ []

-- the zero bits in front of a word whose highest byte is a digit
zeros_in : (word k : ℕ) → k ≤ 3 → 2 ^ (29 - 8 * k) ≤ word → word < 2 ^ (30 - 8 * k) → count_leading_zeros 32 word / 8 ≡ k
zeros_in word zero few high low = let z = leading_unique 32 word 2 30 refl low (omega (arith, high)) in omega (arith, z)
zeros_in word (suc zero) few high low = let z = leading_unique 32 word 10 22 refl low (omega (arith, high)) in omega (arith, z)
zeros_in word (suc (suc zero)) few high low = let z = leading_unique 32 word 18 14 refl low (omega (arith, high)) in omega (arith, z)
zeros_in word (suc (suc (suc zero))) few high low = let z = leading_unique 32 word 26 6 refl low (omega (arith, high)) in omega (arith, z)
zeros_in word (suc (suc (suc (suc k)))) few high low = absurd (omega (arith, few))

-- the digits of a number, by how many of four it does not have, which is how many zero bytes are before them
abbrev pub Shown : ℕ → ℕ → Type 0
Shown n m = (take (4 - m) (to_le_bytes w32 (four n / 2 ^ (8 * m))) ≡ decimal n) × (length (decimal n) + m ≡ 4) × (count_leading_zeros 32 (four n / 2 ^ (8 * m)) / 8 ≡ m)

one_digit : (n : ℕ) → n < 10 → Shown n 3
one_digit n low =
    let word : four n / 2 ^ 24 ≡ 48 + n + 0 * 2 ^ 8 + 0 * 2 ^ 16 + 0 * 2 ^ 24 = omega (arith, low) in
    let is = decimal_digit n low in (
      ap (λ w. take 1 (to_le_bytes w32 w)) word ∙ (ap (take 1) (bytes_are (48 + n) 0 0 0 (omega (arith, low)) (omega arith) (omega arith) (omega arith)) ∙ sym is),
      ap (λ (d : List ℕ). length d + 3) is,
      zeros_in (four n / 2 ^ 24) 3 (omega arith) (omega (arith, word)) (omega (arith, word)),
    )

two_digits : (n : ℕ) → 10 ≤ n → n < 100 → Shown n 2
two_digits n high low =
    let word : four n / 2 ^ 16 ≡ 48 + n / 10 + (48 + n % 10) * 2 ^ 8 + 0 * 2 ^ 16 + 0 * 2 ^ 24 = omega (arith, high, low) in
    let is : decimal n ≡ (48 + n / 10) ∷ (48 + n % 10) ∷ [] = decimal_step n high (omega arith) ∙ ap (λ (d : List ℕ). d ++ (48 + n % 10) ∷ []) (decimal_digit (n / 10) (omega (arith, low))) in (
      ap (λ w. take 2 (to_le_bytes w32 w)) word ∙ (ap (take 2) (bytes_are (48 + n / 10) (48 + n % 10) 0 0 (omega (arith, low)) (omega arith) (omega arith) (omega arith)) ∙ sym is),
      ap (λ (d : List ℕ). length d + 2) is,
      zeros_in (four n / 2 ^ 16) 2 (omega arith) (omega (arith, word)) (omega (arith, word)),
    )

three_digits : (n : ℕ) → 100 ≤ n → n < 1000 → Shown n 1
three_digits n high low =
    let word : four n / 2 ^ 8 ≡ 48 + n / 100 + (48 + n / 10 % 10) * 2 ^ 8 + (48 + n % 10) * 2 ^ 16 + 0 * 2 ^ 24 = omega (arith, high, low) in
    let hundreds : n / 10 / 10 ≡ n / 100 = omega arith in
    let front : decimal (n / 10) ≡ (48 + n / 100) ∷ (48 + n / 10 % 10) ∷ [] = decimal_step (n / 10) (omega (arith, high)) (omega (arith, low))
    ∙ ap (λ (d : List ℕ). d ++ (48 + n / 10 % 10) ∷ []) (decimal_digit (n / 10 / 10) (omega (arith, low)) ∙ ap (λ m. (48 + m) ∷ []) hundreds) in
    let is : decimal n ≡ (48 + n / 100) ∷ (48 + n / 10 % 10) ∷ (48 + n % 10) ∷ [] = decimal_step n (omega (arith, high)) (omega (arith, low)) ∙ ap (λ (d : List ℕ). d ++ (48 + n % 10) ∷ []) front in (
      ap (λ w. take 3 (to_le_bytes w32 w)) word ∙ (ap (take 3) (bytes_are (48 + n / 100) (48 + n / 10 % 10) (48 + n % 10) 0 (omega (arith, low)) (omega arith) (omega arith) (omega arith)) ∙ sym is),
      ap (λ (d : List ℕ). length d + 1) is,
      zeros_in (four n / 2 ^ 8) 1 (omega arith) (omega (arith, word)) (omega (arith, word)),
    )

all_digits : (n : ℕ) → 1000 ≤ n → n < 10000 → Shown n 0
all_digits n high low =
    let word : four n / 2 ^ 0 ≡ 48 + n / 1000 + (48 + n / 100 % 10) * 2 ^ 8 + (48 + n / 10 % 10) * 2 ^ 16 + (48 + n % 10) * 2 ^ 24 = omega arith in
    let hundreds : n / 10 / 10 ≡ n / 100 = omega arith in
    let thousands : n / 100 / 10 ≡ n / 1000 = omega arith in
    let first : decimal (n / 100) ≡ (48 + n / 1000) ∷ (48 + n / 100 % 10) ∷ [] = decimal_step (n / 100) (omega (arith, high)) (omega (arith, low))
    ∙ ap (λ (d : List ℕ). d ++ (48 + n / 100 % 10) ∷ []) (decimal_digit (n / 100 / 10) (omega (arith, low)) ∙ ap (λ m. (48 + m) ∷ []) thousands) in
    let front : decimal (n / 10) ≡ (48 + n / 1000) ∷ (48 + n / 100 % 10) ∷ (48 + n / 10 % 10) ∷ [] = decimal_step (n / 10) (omega (arith, high)) (omega (arith, low))
    ∙ ap (λ (d : List ℕ). d ++ (48 + n / 10 % 10) ∷ []) (ap decimal hundreds ∙ first) in
    let is : decimal n ≡ (48 + n / 1000) ∷ (48 + n / 100 % 10) ∷ (48 + n / 10 % 10) ∷ (48 + n % 10) ∷ [] = decimal_step n (omega (arith, high)) (omega (arith, low)) ∙ ap (λ (d : List ℕ). d ++ (48 + n % 10) ∷ []) front in (
      ap (λ w. take 4 (to_le_bytes w32 w)) word
          ∙ (ap (take 4) (bytes_are (48 + n / 1000) (48 + n / 100 % 10) (48 + n / 10 % 10) (48 + n % 10) (omega (arith, low)) (omega arith) (omega arith) (omega arith)) ∙ sym is),
      ap (λ (d : List ℕ). length d + 0) is,
      zeros_in (four n / 2 ^ 0) 0 (omega arith) (omega (arith, word)) (omega (arith, word)),
    )

pub few_shown : (n : ℕ) → n < 10000 → Shown n (missing n)
few_shown n low = by_tests (nat_lt n 10) (nat_lt n 100) (nat_lt n 1000) refl refl refl
  where
    by_tests : (a b c : Bool) → nat_lt n 10 ≡ a → nat_lt n 100 ≡ b → nat_lt n 1000 ≡ c → Shown n (if a then 3 else (if b then 2 else (if c then 1 else 0)))
    by_tests true b c p q r = one_digit n (ltb-true n 10 p)
    by_tests false true c p q r = two_digits n (ltb-false n 10 p) (ltb-true n 100 q)
    by_tests false false true p q r = three_digits n (ltb-false n 100 q) (ltb-true n 1000 r)
    by_tests false false false p q r = all_digits n (ltb-false n 1000 r) low

-- a number of up to four digits that is written at an index
pub few_written : (before line : List ℕ) (at n : ℕ) → n < 10000 → at + 4 ≤ length before
    → take (at + 4) line ≡ take at before ++ to_le_bytes w32 (few n) → take (at + 4 - missing n) line ≡ take at before ++ decimal n
few_written before line at n low room written =
    let m = missing n in
    let shown = few_shown n low in
    let most : m ≤ 4 = (let sum = shown.1 in omega (arith, sum)) in
    let front = length-take-le at before (omega (arith, room)) in
    let ends : at + 4 - m ≡ length (take at before) + (4 - m) = omega (arith, front, most) in
    sym (take-take (at + 4 - m) (at + 4) line (omega arith))
    ∙ (ap (take (at + 4 - m)) written
    ∙ (ap (λ e. take e (take at before ++ to_le_bytes w32 (few n))) ends
    ∙ (take-append-add (take at before) (to_le_bytes w32 (few n)) (4 - m)
    ∙ ap (λ t. take at before ++ t) shown.0)))

-- the last four digits of a number
last_four : (n : ℕ) → 10000 ≤ n → n < 2 ^ 64 → decimal n ≡ decimal (n / 10000) ++ to_le_bytes w32 (four (n % 10000))
last_four n high fits =
    let m = n % 10000 in
    let two : n / 10 / 10 ≡ n / 100 = omega arith in
    let three : n / 100 / 10 ≡ n / 1000 = omega arith in
    let fourth : n / 1000 / 10 ≡ n / 10000 = omega arith in
    let a : 48 + n / 1000 % 10 ≡ 48 + m / 1000 = omega arith in
    let b : 48 + n / 100 % 10 ≡ 48 + m / 100 % 10 = omega arith in
    let c : 48 + n / 10 % 10 ≡ 48 + m / 10 % 10 = omega arith in
    let d : 48 + n % 10 ≡ 48 + m % 10 = omega arith in
    let bytes = bytes_are (48 + m / 1000) (48 + m / 100 % 10) (48 + m / 10 % 10) (48 + m % 10) (omega arith) (omega arith) (omega arith) (omega arith) in
    let first = decimal_step (n / 1000) (omega arith) (omega arith) ∙ (λ i. decimal (fourth i) ++ (a i ∷ [])) in
    let second = decimal_step (n / 100) (omega arith) (omega arith) ∙ ((λ i. decimal (three i) ++ (b i ∷ [])) ∙ ap (λ xs. xs ++ ((48 + m / 100 % 10) ∷ [])) first) in
    let third = decimal_step (n / 10) (omega arith) (omega arith) ∙ ((λ i. decimal (two i) ++ (c i ∷ [])) ∙ ap (λ xs. xs ++ ((48 + m / 10 % 10) ∷ [])) second) in
    let last = decimal_step n (omega arith) fits ∙ ((λ i. decimal (n / 10) ++ (d i ∷ [])) ∙ ap (λ xs. xs ++ ((48 + m % 10) ∷ [])) third) in
    rw (last, bytes) (simp append_assoc)

-- the same, written after those before them
pub four_written : (before mid line : List ℕ) (n : ℕ) → 10000 ≤ n → n < 2 ^ 64 → mid ≡ before ++ decimal (n / 10000) → line ≡ mid ++ to_le_bytes w32 (four (n % 10000)) → line ≡ before ++ decimal n
four_written before mid line n high fits front last =
    chains.two before (decimal (n / 10000)) (to_le_bytes w32 (four (n % 10000))) mid line front last ∙ ap (λ xs. before ++ xs) (sym (last_four n high fits))

-- the last eight digits of a number, written after those before them
pub eight_written : (before mid next line : List ℕ) (n : ℕ) → 100000000 ≤ n → n < 2 ^ 64 → mid ≡ before ++ decimal (n / 100000000) → next ≡ mid ++ to_le_bytes w32 (four (n / 10000 % 10000)) → line ≡ next ++ to_le_bytes w32 (four (n % 10000)) → line ≡ before ++ decimal n
eight_written before mid next line n high fits front middle last =
    let same : n / 10000 / 10000 ≡ n / 100000000 = omega arith in
    let upper = four_written before mid next (n / 10000) (omega arith) (omega arith) (front ∙ ap (λ m. before ++ decimal m) (sym same)) middle in
    four_written before next line n (omega arith) fits upper last
