-- Digits in groups.
use Rattle.std.proofs.Common.{◌≡◌, ℕ, zero, suc, ◌+◌, ◌*◌, ◌/◌, ◌%◌, ◌^◌, ◌<◌, ◌≤◌, List, [], ◌∷◌, ◌++◌, length, refl, sym, ap, subst, ◌∙◌, add-zero, add-suc, mul_comm, append_assoc, append-nil, length-append, arith}
use Rattle.std.proofs.Math.Nat.{div-add-mod, div-div-eq-div-mul, mod-lt, pow-succ', mul_left_comm}
use Rattle.std.specs.Fmt.{decimal}
use Rattle.std.proofs.lemmas.Fmt.{decimal_step}
use Rattle.ctf_timestamp.specs.Digits.{last_digits}

pub digits_long : (k n : ℕ) → length (last_digits k n) ≡ k
unfolding last_digits
digits_long zero n = refl
digits_long (suc k) n = omega (arith, length-append (last_digits k (n / 10)) ((48 + n % 10) ∷ []), digits_long k (n / 10))

one_more : (c d e : ℕ) (xs ys zs : List ℕ) → xs ≡ ys ++ zs → d ≡ e → xs ++ (c + d) ∷ [] ≡ ys ++ (zs ++ (c + e) ∷ [])
one_more c d e xs ys zs h g = rw (h, g, append_assoc)

joined_more : (m k q b : ℕ) (xs : List ℕ) → last_digits (m + k) (q + b / 10) ≡ xs ++ last_digits k (b / 10)
    → last_digits (m + k) ((10 * q + b) / 10) ++ (48 + (10 * q + b) % 10) ∷ [] ≡ xs ++ (last_digits k (b / 10) ++ (48 + b % 10) ∷ [])
joined_more m k q b xs h =
    let e : (10 * q + b) / 10 ≡ q + b / 10 = omega arith in
    let d : (10 * q + b) % 10 ≡ b % 10 = omega arith in
    one_more 48 ((10 * q + b) % 10) (b % 10) _ xs (last_digits k (b / 10)) (ap (last_digits (m + k)) e ∙ h) d

joined : (m k a b : ℕ) → b < 10 ^ k → last_digits (m + k) (a * 10 ^ k + b) ≡ last_digits m a ++ last_digits k b
unfolding last_digits
joined m zero a b h = let e : a * 1 + b ≡ a = omega arith in rw (add-zero m, e, append-nil)
joined m (suc k) a b h =
    let p = 10 ^ k in
    let e : 10 ^ suc k ≡ 10 * p = pow-succ' 10 k in
    let g : a * (10 * p) ≡ 10 * (a * p) = mul_left_comm a 10 p in
    let small : b / 10 < p = omega arith in
    rw (add-suc m k, e, g) (joined_more m k (a * p) b (last_digits m a) (joined m k a (b / 10) small))

pub split : (m k p n : ℕ) → 0 < p → p ≡ 10 ^ k → last_digits (m + k) n ≡ last_digits m (n / p) ++ last_digits k (n % p)
split m k p n g e =
    let small : n % p < 10 ^ k = subst (λ (q : ℕ). n % p < q) e (mod-lt n g) in
    let whole : n / p * 10 ^ k + n % p ≡ n = ap (λ q. n / p * q + n % p) (sym e) ∙ (ap (λ q. q + n % p) (mul_comm (n / p) p) ∙ div-add-mod n p) in
    ap (last_digits (m + k)) (sym whole) ∙ joined m k (n / p) (n % p) small

pub two_digits : (a b n : ℕ) → n < 100 → a ≡ n / 10 → b ≡ n % 10 → (48 + a) ∷ (48 + b) ∷ [] ≡ last_digits 2 n
unfolding last_digits
two_digits a b n h f g =
    let e : a ≡ n / 10 % 10 = omega arith in
    ap (λ m. (48 + m) ∷ (48 + b) ∷ []) e ∙ ap (λ m. (48 + n / 10 % 10) ∷ (48 + m) ∷ []) g

-- two digits in one word
pub pair_digits : (w n : ℕ) → n < 100 → w ≡ 48 + n / 10 + (48 + n % 10) * 256 → w % 256 ∷ w / 256 % 256 ∷ [] ≡ last_digits 2 n
pair_digits w n few is =
    let first : w % 256 ≡ 48 + n / 10 = omega (arith, few, is) in
    let second : w / 256 % 256 ≡ 48 + n % 10 = omega (arith, few, is) in
    (λ i. first i ∷ second i ∷ []) ∙ two_digits (n / 10) (n % 10) n few refl refl

-- three digits in one word
pub triple_digits : (w n : ℕ) → n < 1000 → w ≡ 48 + n / 100 + (48 + n / 10 % 10) * 256 + (48 + n % 10) * 65536
    → w % 256 ∷ w / 256 % 256 ∷ w / 65536 % 256 ∷ w / 16777216 % 256 ∷ [] ≡ last_digits 3 n ++ 0 ∷ []
unfolding last_digits
triple_digits w n few is =
    let first : w % 256 ≡ 48 + n / 10 / 10 % 10 = omega (arith, few, is) in
    let second : w / 256 % 256 ≡ 48 + n / 10 % 10 = omega (arith, few, is) in
    let third : w / 65536 % 256 ≡ 48 + n % 10 = omega (arith, few, is) in
    let none : w / 16777216 % 256 ≡ 0 = omega (arith, few, is) in
    (λ i. first i ∷ second i ∷ third i ∷ none i ∷ [])

-- nine digits in three groups
pub nine_digits : (n : ℕ) → (last_digits 3 (n / 1000000) ++ last_digits 3 (n % 1000000 / 1000)) ++ last_digits 3 (n % 1000000 % 1000) ≡ last_digits 9 n
nine_digits n =
    let front = split 3 6 1000000 n (omega arith) refl in
    let rest = split 3 3 1000 (n % 1000000) (omega arith) refl in
    append_assoc (last_digits 3 (n / 1000000)) (last_digits 3 (n % 1000000 / 1000)) (last_digits 3 (n % 1000000 % 1000))
    ∙ sym (front ∙ ap (λ xs. last_digits 3 (n / 1000000) ++ xs) rest)

pub twenty_digits : (n : ℕ) → (last_digits 4 (n / 10000000000000000) ++ last_digits 8 (n / 100000000 % 100000000)) ++ last_digits 8 (n % 100000000) ≡ last_digits 20 n
twenty_digits n =
    let a = split 12 8 100000000 n (omega arith) refl in
    let b = split 4 8 100000000 (n / 100000000) (omega arith) refl in
    let e : n / 10000000000000000 ≡ n / 100000000 / 100000000 = omega arith in
    ap (λ m. (last_digits 4 m ++ last_digits 8 (n / 100000000 % 100000000)) ++ last_digits 8 (n % 100000000)) e ∙ sym (a ∙ ap (λ xs. xs ++ last_digits 8 (n % 100000000)) b)

ten_pos : (k : ℕ) → 0 < 10 ^ k
ten_pos zero = omega arith
ten_pos (suc k) = rw (pow-succ' 10 k) (omega (arith, ten_pos k))

-- a number is its front and its last digits
decimal_long : (k n : ℕ) → 10 ^ k ≤ n → n < 2 ^ 64 → decimal n ≡ decimal (n / 10 ^ k) ++ last_digits k n
unfolding last_digits
decimal_long zero n low fits = let e : n / 1 ≡ n = omega arith in rw (e, append-nil) refl
decimal_long (suc k) n low fits =
    let p = 10 ^ k in
    let e : 10 ^ suc k ≡ 10 * p = pow-succ' 10 k in
    let one = ten_pos k in
    let step = decimal_step n (omega arith) fits in
    let front = decimal_long k (n / 10) (omega arith) (omega arith) in
    let same : n / 10 / p ≡ n / (10 * p) = div-div-eq-div-mul n 10 p in
    rw (step, front, e, append_assoc, same) refl
