-- Numbers in hexadecimal, all digits at once.
use Rattle.std.proofs.Common.{◌≡◌, ℕ, zero, suc, ◌+◌, ◌-◌, ◌*◌, ◌/◌, ◌%◌, ◌^◌, ◌<◌, ◌≤◌, true, cond, ltb, leb, List, [], ◌∷◌, ◌++◌, length, map, take, replicate, refl, sym, ap, ◌∙◌, subst, arith, length-append, append_assoc, max, ⊎_elim, eq-zero-or-pos}
use Rattle.std.proofs.Math.Nat.{pow-suc, mul-le-mul_right}
use Rattle.std.proofs.Math.Pow.{pow_mono}
use Rattle.std.proofs.Math.Seq.{take-append-add}
use Rattle.std.proofs.lemmas.Nat.{pow_pos, pow-add}
use Rattle.std.proofs.lemmas.List.{map-append, take-map, take-take, take-append-le, length-take-le, take_all}
use Rattle.std.proofs.lemmas.Bool.Decides.{nat_tests}
use Rattle.std.specs.Simd.Lanes.{Each1, zip2, sel_l, top}
use Rattle.std.specs.Fmt.{digits, digit_glyph}
use Rattle.ctf_format.specs.Digits.{sixteens}
use Rattle.ctf_format.proofs.DigitsLemmas.{digits_last, digits_more}

-- ---- what digits are worth

sixteens_none : (n : ℕ) → sixteens 0 n ≡ []
unfolding sixteens
sixteens_none n = refl

sixteens_more : (k n : ℕ) → sixteens (suc k) n ≡ sixteens k (n / 16) ++ (n % 16 ∷ [])
unfolding sixteens
sixteens_more k n = refl

length_sixteens : (k n : ℕ) → length (sixteens k n) ≡ k
length_sixteens zero n = ap length (sixteens_none n)
length_sixteens (suc k) n = omega (arith, ap length (sixteens_more k n), length-append (sixteens k (n / 16)) (n % 16 ∷ []), length_sixteens k (n / 16))

-- the same by bytes, as lanes have them
abbrev pub by_bytes : ℕ → ℕ → List ℕ
by_bytes zero n = []
by_bytes (suc k) n = by_bytes k (n / 256) ++ (n % 256 / 16 ∷ n % 256 % 16 ∷ [])

abbrev twice : ℕ → ℕ
twice zero = zero
twice (suc k) = suc (suc (twice k))

by_bytes_same : (k n : ℕ) → by_bytes k n ≡ sixteens (twice k) n
by_bytes_same zero n = sym (sixteens_none n)
by_bytes_same (suc k) n =
    let a : n / 256 ≡ n / 16 / 16 = omega arith in
    let b : n % 256 / 16 ≡ n / 16 % 16 = omega arith in
    let c : n % 256 % 16 ≡ n % 16 = omega arith in
    let more = sixteens_more (suc (twice k)) n ∙ ap (λ xs. xs ++ (n % 16 ∷ [])) (sixteens_more (twice k) (n / 16)) in
    (λ i. by_bytes k (a i) ++ (b i ∷ c i ∷ []))
    ∙ (ap (λ xs. xs ++ (n / 16 % 16 ∷ n % 16 ∷ [])) (by_bytes_same k (n / 16 / 16))
    ∙ (sym (append_assoc (sixteens (twice k) (n / 16 / 16)) (n / 16 % 16 ∷ []) (n % 16 ∷ [])) ∙ sym more))

pub lanes_same : (n : ℕ) → by_bytes 8 (n + 0) ≡ sixteens 16 n
lanes_same n = let same : n + 0 ≡ n = omega arith in by_bytes_same 8 (n + 0) ∙ ap (sixteens 16) same

-- ---- a number that is moved to the front

four_more : (b : ℕ) → 2 ^ (4 * suc b) ≡ 2 ^ (4 * b) * 16
four_more b =
    let sum : 4 * suc b ≡ 4 * b + 4 = omega arith in
    ap (λ e. 2 ^ e) sum ∙ pow-add 2 (4 * b) 4

-- its first digits
front_of_moved : (b a whole n : ℕ) → whole ≡ b + a → take a (sixteens whole (n * 2 ^ (4 * b))) ≡ sixteens a n
front_of_moved zero a whole n all =
    let same : n * 2 ^ (4 * 0) ≡ n = omega arith in
    let long : whole ≡ a = omega arith in
    (λ i. take a (sixteens (long i) (same i))) ∙ take_all a (sixteens a n) (omega (arith, length_sixteens a n))
front_of_moved (suc b) a zero n all = absurd (omega arith)
front_of_moved (suc b) a (suc k) n all =
    let power : 2 ^ (4 * suc b) ≡ 2 ^ (4 * b) * 16 = four_more b in
    let moved : n * 2 ^ (4 * suc b) / 16 ≡ n * 2 ^ (4 * b) = omega (arith, ap (λ p. n * p) power) in
    let last = n * 2 ^ (4 * suc b) % 16 ∷ [] in
    ap (take a) (sixteens_more k (n * 2 ^ (4 * suc b)) ∙ ap (λ m. sixteens k m ++ last) moved)
    ∙ (take-append-le a (sixteens k (n * 2 ^ (4 * b))) last (omega (arith, length_sixteens k (n * 2 ^ (4 * b))))
    ∙ front_of_moved b a k n (omega arith))

-- ---- how many digits a number has

count_between : (k n : ℕ) → n < 2 ^ (4 * suc k) → (1 ≤ k → 2 ^ (4 * k) ≤ n) → n < 2 ^ 64 → length (digits 16 true n) ≡ suc k
count_between zero n below above fits =
    let none : n / 16 ≡ 0 = omega arith in
    ap length (digits_last 16 n none)
count_between (suc k) n below above fits =
    let power = four_more (suc k) in
    let least = four_more k in
    let some = pow_pos (4 * k) in
    let enough : 2 ^ (4 * suc k) ≤ n = above (omega arith) in
    let front = count_between k (n / 16) (omega arith) (λ _. omega arith) (omega arith) in
    let more = digits_more 16 n (omega arith) fits (omega arith) in
    omega (arith, ap length more, length-append (digits 16 true (n / 16)) (digit_glyph true (n % 16) ∷ []))

-- the same by its highest bit; 0 has one digit as 1 has
pub count_by_bits : (n m bits : ℕ) → m ≡ max n 1 → 2 ^ bits ≤ m → m < 2 * 2 ^ bits → n < 2 ^ 64 → bits / 4 + 1 ≡ length (digits 16 true n)
count_by_bits n m bits is low high fits =
    let least = pow_mono {i = 4 * (bits / 4)} {j = bits} (omega arith) in
    let most = pow_mono {i = suc bits} {j = 4 * suc (bits / 4)} (omega arith) in
    let double : 2 ^ suc bits ≡ 2 ^ bits * 2 = pow-suc 2 bits in
    let some : 1 ≤ bits / 4 → 2 ≤ 2 ^ bits = λ one. pow_mono {i = 1} {j = bits} (omega arith) in
    omega (arith, count_between (bits / 4) n (omega arith) (λ one. omega (arith, some one)) fits)

-- a number is shown by so many of its lowest digits
abbrev Shown : ℕ → Type 0
Shown n = (digits 16 true n ≡ map (digit_glyph true) (sixteens (length (digits 16 true n)) n)) × (n < 2 ^ (4 * length (digits 16 true n)))

last_shown : (n : ℕ) → n / 16 ≡ 0 → Shown n
last_shown n none =
    let is = digits_last 16 n none in
    let one : 1 ≡ length (digits 16 true n) = sym (ap length is) in
    let worth : sixteens 1 n ≡ n % 16 ∷ [] = sixteens_more 0 n ∙ ap (λ xs. xs ++ (n % 16 ∷ [])) (sixteens_none (n / 16)) in (
      subst (λ k. digits 16 true n ≡ map (digit_glyph true) (sixteens k n)) one (is ∙ sym (ap (map (digit_glyph true)) worth)),
      subst (λ k. n < 2 ^ (4 * k)) one (omega arith),
    )

more_shown : (n : ℕ) → n < 2 ^ 64 → 0 < n / 16 → Shown (n / 16) → Shown n
more_shown n fits some front =
    let count = length (digits 16 true (n / 16)) in
    let glyph = digit_glyph true (n % 16) in
    let is = digits_more 16 n (omega arith) fits some in
    let longer : suc count ≡ length (digits 16 true n) = omega (arith, ap length is, length-append (digits 16 true (n / 16)) (glyph ∷ [])) in
    let worth : map (digit_glyph true) (sixteens (suc count) n) ≡ map (digit_glyph true) (sixteens count (n / 16)) ++ (glyph ∷ []) =
    ap (map (digit_glyph true)) (sixteens_more count n) ∙ map-append (digit_glyph true) (sixteens count (n / 16)) (n % 16 ∷ []) in (
      subst (λ k. digits 16 true n ≡ map (digit_glyph true) (sixteens k n)) longer (is ∙ (ap (λ xs. xs ++ (glyph ∷ [])) front.0 ∙ sym worth)),
      subst (λ k. n < 2 ^ (4 * k)) longer (omega (arith, four_more count, front.1)),
    )

shown_by : (k n : ℕ) → n < 2 ^ k → n < 2 ^ 64 → Shown n
shown_by zero n below fits = last_shown n (omega arith)
shown_by (suc k) n below fits =
    let double : 2 ^ suc k ≡ 2 ^ k * 2 = pow-suc 2 k in
    ⊎_elim (last_shown n) (λ some. more_shown n fits some (shown_by k (n / 16) (omega arith) (omega arith))) (eq-zero-or-pos (n / 16))

-- a number's digits are the first ones of those that are written, since its first digit is moved to the front
pub moved_written : (before line values glyphs : List ℕ) (at n count : ℕ) → count ≡ length (digits 16 true n) → count ≤ 16 → n < 2 ^ 64 → at + 16 ≤ length before
    → values ≡ sixteens 16 (n * 2 ^ (64 - 4 * count) % 2 ^ 64) → glyphs ≡ map (digit_glyph true) values → take (at + 16) line ≡ take at before ++ glyphs
    → take (at + count) line ≡ take at before ++ digits 16 true n
moved_written before line values glyphs at n count is few fits room worth shown_as written =
    let shown = subst (λ k. (digits 16 true n ≡ map (digit_glyph true) (sixteens k n)) × (n < 2 ^ (4 * k))) (sym is) (shown_by 64 n fits fits) in
    let left : 64 - 4 * count ≡ 4 * (16 - count) = omega arith in
    let all : 4 * count + 4 * (16 - count) ≡ 64 = omega arith in
    let power : 2 ^ 64 ≡ 2 ^ (4 * count) * 2 ^ (4 * (16 - count)) = ap (λ e. 2 ^ e) (sym all) ∙ pow-add 2 (4 * count) (4 * (16 - count)) in
    let some = pow_pos (4 * (16 - count)) in
    let moved : n * 2 ^ (4 * (16 - count)) < 2 ^ 64 = omega (arith, power, mul-le-mul_right {m = suc n} {n = 2 ^ (4 * count)} (2 ^ (4 * (16 - count))) shown.1) in
    let same : n * 2 ^ (64 - 4 * count) % 2 ^ 64 ≡ n * 2 ^ (4 * (16 - count)) = omega (arith, ap (λ e. n * 2 ^ e) left) in
    let all_shown = map (digit_glyph true) (sixteens 16 (n * 2 ^ (4 * (16 - count)))) in
    let these : glyphs ≡ all_shown = shown_as ∙ ap (map (digit_glyph true)) (worth ∙ ap (sixteens 16) same) in
    let front = length-take-le at before (omega arith) in
    let ends : at + count ≡ length (take at before) + count = omega arith in
    sym (take-take (at + count) (at + 16) line (omega arith))
    ∙ (ap (take (at + count)) (written ∙ ap (λ xs. take at before ++ xs) these)
    ∙ (ap (λ e. take e (take at before ++ all_shown)) ends
    ∙ (take-append-add (take at before) all_shown count
    ∙ ap (λ xs. take at before ++ xs) (take-map (digit_glyph true) count (sixteens 16 (n * 2 ^ (4 * (16 - count))))
    ∙ (ap (map (digit_glyph true)) (front_of_moved (16 - count) count 16 n (omega arith)) ∙ sym shown.0)))))

-- ---- digits in lanes

lane_shown : (n : ℕ) → n < 16 → ((n + 48) % 256 + cond (leb 128 (cond (ltb 9 n) 255 0)) 7 0) % 256 ≡ digit_glyph true n
lane_shown n small = grind (arith, nat_tests)

pub lanes_shown : (k : ℕ) (ns : List ℕ) → length ns ≡ k → Each1 (λ n. n < 16) ns
    → zip2 (λ a b. (a + b) % 256) (zip2 (λ a b. (a + b) % 256) ns (replicate k 48)) (sel_l (map (top 7) (zip2 (λ a b. cond (ltb a b) 255 0) (replicate k 9) ns)) (replicate k 7) (replicate k 0)) ≡ map (digit_glyph true) ns
lanes_shown zero [] long small = refl
lanes_shown zero (n ∷ ns) long small = absurd (omega arith)
lanes_shown (suc k) [] long small = absurd (omega arith)
lanes_shown (suc k) (n ∷ ns) long small =
    let one = lane_shown n small.0 in
    let more = lanes_shown k ns (omega arith) small.1 in
    λ i. one i ∷ more i

each_append : (P : ℕ → Type 0) (xs ys : List ℕ) → Each1 P xs → Each1 P ys → Each1 P (xs ++ ys)
each_append P [] ys front back = back
each_append P (x ∷ xs) ys front back = (front.0, each_append P xs ys front.1 back)

pub sixteens_below : (k n : ℕ) → Each1 (λ a. a < 16) (sixteens k n)
sixteens_below zero n = subst (Each1 (λ a. a < 16)) (sym (sixteens_none n)) tt
sixteens_below (suc k) n = subst (Each1 (λ a. a < 16)) (sym (sixteens_more k n)) (each_append (λ a. a < 16) (sixteens k (n / 16)) (n % 16 ∷ []) (sixteens_below k (n / 16)) (omega arith, tt))
