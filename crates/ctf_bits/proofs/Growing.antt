-- A number grows by the bits that it has in the next byte.
use Rattle.std.proofs.Common.{◌≡◌, ℕ, ◌+◌, ◌-◌, ◌*◌, ◌/◌, ◌%◌, ◌^◌, ◌<◌, ◌≤◌, List, ap, sym, subst, ◌∙◌, arith}
use Rattle.std.specs.Prelude.{slice_index}
use Rattle.std.proofs.Math.Nat.{div-one, mod-eq_of_lt, pow-le-pow_right}
use Rattle.std.proofs.lemmas.Nat.{shl_whole, shr_below}
use Rattle.ctf_bits.specs.declared.number.Order.{Order}
use Rattle.ctf_bits.specs.declared.number.Order.TheVariants.{Le, Be}
use Rattle.ctf_bits.specs.Number.{number}
use Rattle.ctf_bits.proofs.Numbers.{number-lt}
use Rattle.ctf_bits.proofs.Joins.{join-le, join-be, in_byte-le, in_byte-be}

-- n bits of the first byte from bit s on
pub first-le : (bytes : List ℕ) (s n e k x : ℕ) → s + n ≤ 8 → e ≡ s → k ≡ n → x ≡ slice_index bytes 0 / 2 ^ e % 2 ^ k → x ≡ number Le bytes s n
first-le bytes s n e k x within shift bits is =
    let place : s ≡ 8 * 0 + s = omega arith in
    is ∙ ap (λ (j : ℕ). slice_index bytes 0 / 2 ^ j % 2 ^ k) shift ∙ ap (λ (j : ℕ). slice_index bytes 0 / 2 ^ s % 2 ^ j) bits
    ∙ sym (ap (λ (p : ℕ). number Le bytes p n) place ∙ in_byte-le bytes 0 s n within)

pub first-be : (bytes : List ℕ) (s n e k x : ℕ) → s + n + e ≡ 8 → k ≡ n → x ≡ slice_index bytes 0 / 2 ^ e % 2 ^ k → x ≡ number Be bytes s n
first-be bytes s n e k x within bits is =
    let place : s ≡ 8 * 0 + s = omega arith in
    is ∙ ap (λ (j : ℕ). slice_index bytes 0 / 2 ^ e % 2 ^ j) bits
    ∙ sym (ap (λ (p : ℕ). number Be bytes p n) place ∙ in_byte-be bytes 0 s n e within)

-- all bits of the first byte from bit s on
pub rest_of_first-le : (bytes : List ℕ) (s : ℕ) → s < 8 → slice_index bytes 0 < 256 → slice_index bytes 0 / 2 ^ s ≡ number Le bytes s (8 - s)
rest_of_first-le bytes s small below =
    let bits : 8 ≡ 8 - s + s = omega arith in
    let byte : slice_index bytes 0 < 2 ^ (8 - s + s) = subst (λ (k : ℕ). slice_index bytes 0 < 2 ^ k) bits below in
    first-le bytes s (8 - s) s (8 - s) (slice_index bytes 0 / 2 ^ s) (omega arith) (omega arith) (omega arith)
    (sym (mod-eq_of_lt (shr_below (slice_index bytes 0) (8 - s) s byte)))

pub rest_of_first-be : (bytes : List ℕ) (s k x : ℕ) → s + k ≡ 8 → x ≡ slice_index bytes 0 % 2 ^ k → x ≡ number Be bytes s (8 - s)
rest_of_first-be bytes s k x bits is =
    first-be bytes s (8 - s) 0 k x (omega arith) (omega arith) (is ∙ ap (λ (byte : ℕ). byte % 2 ^ k) (sym (div-one (slice_index bytes 0))))

-- the first k bits of byte j
first_of_byte-le : (bytes : List ℕ) (j k : ℕ) → k ≤ 8 → number Le bytes (8 * j) k ≡ slice_index bytes j % 2 ^ k
first_of_byte-le bytes j k within =
    let place : 8 * j ≡ 8 * j + 0 = omega arith in
    ap (λ (p : ℕ). number Le bytes p k) place ∙ in_byte-le bytes j 0 k (omega arith) ∙ ap (λ (byte : ℕ). byte % 2 ^ k) (div-one (slice_index bytes j))

first_of_byte-be : (bytes : List ℕ) (j k : ℕ) → k ≤ 8 → slice_index bytes j < 256 → number Be bytes (8 * j) k ≡ slice_index bytes j / 2 ^ (8 - k)
first_of_byte-be bytes j k within below =
    let place : 8 * j ≡ 8 * j + 0 = omega arith in
    let bits : 8 ≡ k + (8 - k) = omega arith in
    let byte : slice_index bytes j < 2 ^ (k + (8 - k)) = subst (λ (b : ℕ). slice_index bytes j < 2 ^ b) bits below in
    ap (λ (p : ℕ). number Be bytes p k) place ∙ in_byte-be bytes j 0 k (8 - k) (omega arith) ∙ mod-eq_of_lt (shr_below (slice_index bytes j) k (8 - k) byte)

-- a number of d bits that ends where byte j begins, and k bits more: le
grown-le : (bytes : List ℕ) (s d j k x b : ℕ) → s + d ≡ 8 * j → k ≤ 8 → d + k ≤ 64 → x ≡ number Le bytes s d → b ≡ slice_index bytes j % 2 ^ k
    → x + b * 2 ^ d % 2 ^ 64 ≡ number Le bytes s (d + k)
grown-le bytes s d j k x b ends within fits so_far next =
    let part : number Le bytes (s + d) k ≡ b = ap (λ (p : ℕ). number Le bytes p k) ends ∙ first_of_byte-le bytes j k within ∙ sym next in
    let below : b < 2 ^ k = subst (λ (y : ℕ). y < 2 ^ k) part (number-lt Le bytes (s + d) k) in
    let whole : b * 2 ^ d % 2 ^ 64 ≡ b * 2 ^ d = shl_whole b k d 64 below (omega arith) in
    rw (join-le bytes s d k, part, ← so_far) (omega arith)

-- be
grown-be : (bytes : List ℕ) (s d j k x b : ℕ) → s + d ≡ 8 * j → k ≤ 8 → d + k ≤ 64 → slice_index bytes j < 256 → x ≡ number Be bytes s d
    → b ≡ slice_index bytes j / 2 ^ (8 - k) → x * 2 ^ k % 2 ^ 64 + b ≡ number Be bytes s (d + k)
grown-be bytes s d j k x b ends within fits byte so_far next =
    let part : number Be bytes (s + d) k ≡ b = ap (λ (p : ℕ). number Be bytes p k) ends ∙ first_of_byte-be bytes j k within byte ∙ sym next in
    let below : x < 2 ^ d = subst (λ (y : ℕ). y < 2 ^ d) (sym so_far) (number-lt Be bytes s d) in
    let whole : x * 2 ^ k % 2 ^ 64 ≡ x * 2 ^ k = shl_whole x d k 64 below fits in
    rw (join-be bytes s d k, part, ← so_far) (omega arith)

-- numbers of at most 64 bits fit a word
pub fits_word : (order : Order) (bytes : List ℕ) (s n x : ℕ) → n ≤ 64 → x ≡ number order bytes s n → x < 2 ^ 64
fits_word order bytes s n x most is =
    omega (arith, is, number-lt order bytes s n, pow-le-pow_right {n = 2} (omega arith) most)

-- the same from bit s of the first byte up to byte i, m bits in all
pub more-le : (bytes : List ℕ) (s d j k m x b : ℕ) → s + d ≡ 8 * j → k ≤ 8 → m ≤ 64 → d + k ≡ m → x ≡ number Le bytes s d → b ≡ slice_index bytes j % 2 ^ k
    → x + b * 2 ^ d % 2 ^ 64 ≡ number Le bytes s m
more-le bytes s d j k m x b ends within most bits so_far next =
    grown-le bytes s d j k x b ends within (omega arith) so_far next ∙ ap (number Le bytes s) bits

pub more-be : (bytes : List ℕ) (s d j k e m x b : ℕ) → s + d ≡ 8 * j → k + e ≡ 8 → m ≤ 64 → d + k ≡ m → slice_index bytes j < 256 → x ≡ number Be bytes s d
    → b ≡ slice_index bytes j / 2 ^ e → x * 2 ^ k % 2 ^ 64 + b ≡ number Be bytes s m
more-be bytes s d j k e m x b ends within most bits byte so_far next =
    let above : e ≡ 8 - k = omega arith in
    grown-be bytes s d j k x b ends (omega arith) (omega arith) byte so_far (next ∙ ap (λ (i : ℕ). slice_index bytes j / 2 ^ i) above)
    ∙ ap (number Be bytes s) bits
