-- A number of a + b bits is joined from one of a bits and the next of b bits.
use Rattle.std.proofs.Common.{◌≡◌, ℕ, zero, suc, ◌+◌, ◌-◌, ◌*◌, ◌/◌, ◌%◌, ◌^◌, ◌<◌, ◌≤◌, List, refl, ap, sym, ◌∙◌, arith, add-one, add-zero, drop}
use Rattle.std.specs.Prelude.{slice_index}
use Rattle.std.proofs.Math.Nat.{pow-suc, div-one, mod-eq_of_lt, mod-one}
use Rattle.std.proofs.lemmas.List.{get_or-drop}
use Rattle.std.proofs.lemmas.Nat.{pow-add, mod-pow-add, shr-shr}
use Rattle.ctf_bits.specs.declared.number.Order.{Order}
use Rattle.ctf_bits.specs.declared.number.Order.TheVariants.{Le, Be}
use Rattle.ctf_bits.specs.Number.{bit_of, number}
use Rattle.ctf_bits.proofs.Numbers.{number-zero, number-le, number-be}

-- in le the first part weighs less
pub join-le : (bytes : List ℕ) (p a b : ℕ) → number Le bytes p (a + b) ≡ number Le bytes p a + number Le bytes (p + a) b * 2 ^ a
join-le bytes p a zero = rw (add-zero, number-zero Le bytes (p + a)) (omega arith)
join-le bytes p a (suc b) =
    let one_more : a + suc b ≡ a + b + 1 = omega arith in
    let place : p + (a + b) ≡ p + a + b = omega arith in
    let whole : number Le bytes p (a + suc b) ≡ number Le bytes p (a + b) + bit_of Le bytes (p + a + b) * 2 ^ (a + b) =
    ap (number Le bytes p) one_more ∙ number-le bytes p (a + b) ∙ ap (λ (k : ℕ). number Le bytes p (a + b) + bit_of Le bytes k * 2 ^ (a + b)) place in
    let part : number Le bytes (p + a) (suc b) ≡ number Le bytes (p + a) b + bit_of Le bytes (p + a + b) * 2 ^ b =
    ap (number Le bytes (p + a)) (sym (add-one b)) ∙ number-le bytes (p + a) b in
    rw (whole, part, join-le bytes p a b, pow-add 2 a b) (omega arith)

-- in be it weighs more
pub join-be : (bytes : List ℕ) (p a b : ℕ) → number Be bytes p (a + b) ≡ number Be bytes p a * 2 ^ b + number Be bytes (p + a) b
join-be bytes p a zero = rw (add-zero, number-zero Be bytes (p + a)) (omega arith)
join-be bytes p a (suc b) =
    let one_more : a + suc b ≡ a + b + 1 = omega arith in
    let place : p + (a + b) ≡ p + a + b = omega arith in
    let whole : number Be bytes p (a + suc b) ≡ 2 * number Be bytes p (a + b) + bit_of Be bytes (p + a + b) =
    ap (number Be bytes p) one_more ∙ number-be bytes p (a + b) ∙ ap (λ (k : ℕ). 2 * number Be bytes p (a + b) + bit_of Be bytes k) place in
    let part : number Be bytes (p + a) (suc b) ≡ 2 * number Be bytes (p + a) b + bit_of Be bytes (p + a + b) =
    ap (number Be bytes (p + a)) (sym (add-one b)) ∙ number-be bytes (p + a) b in
    rw (whole, part, join-be bytes p a b, pow-suc 2 b) (omega arith)

-- bits within one byte
pub in_byte-le : (bytes : List ℕ) (j s n : ℕ) → s + n ≤ 8 → number Le bytes (8 * j + s) n ≡ slice_index bytes j / 2 ^ s % 2 ^ n
in_byte-le bytes j s zero within = number-zero Le bytes (8 * j + s) ∙ sym (mod-one (slice_index bytes j / 2 ^ s))
in_byte-le bytes j s (suc n) within =
    let byte = slice_index bytes j in
    let index : (8 * j + s + n) / 8 ≡ j = omega arith in
    let place : (8 * j + s + n) % 8 ≡ s + n = omega arith in
    let bit : bit_of Le bytes (8 * j + s + n) ≡ byte / 2 ^ (s + n) % 2 =
    ap (λ (k : ℕ). slice_index bytes k / 2 ^ ((8 * j + s + n) % 8) % 2) index ∙ ap (λ (k : ℕ). byte / 2 ^ k % 2) place in
    let more : number Le bytes (8 * j + s) (suc n) ≡ number Le bytes (8 * j + s) n + bit_of Le bytes (8 * j + s + n) * 2 ^ n =
    ap (number Le bytes (8 * j + s)) (sym (add-one n)) ∙ number-le bytes (8 * j + s) n in
    let split : byte / 2 ^ s % 2 ^ (1 + n) ≡ byte / 2 ^ (s + n) % 2 * 2 ^ n + byte / 2 ^ s % 2 ^ n =
    mod-pow-add (byte / 2 ^ s) 1 n ∙ ap (λ (k : ℕ). k % 2 * 2 ^ n + byte / 2 ^ s % 2 ^ n) (shr-shr byte s n) in
    let count : suc n ≡ 1 + n = omega arith in
    more ∙ rw (bit, in_byte-le bytes j s n (omega arith)) (omega arith) ∙ sym split ∙ ap (λ (k : ℕ). byte / 2 ^ s % 2 ^ k) (sym count)

pub in_byte-be : (bytes : List ℕ) (j s n e : ℕ) → s + n + e ≡ 8 → number Be bytes (8 * j + s) n ≡ slice_index bytes j / 2 ^ e % 2 ^ n
in_byte-be bytes j s zero e within = number-zero Be bytes (8 * j + s) ∙ sym (mod-one (slice_index bytes j / 2 ^ e))
in_byte-be bytes j s (suc n) e within =
    let byte = slice_index bytes j in
    let index : (8 * j + s + n) / 8 ≡ j = omega arith in
    let place : 7 - (8 * j + s + n) % 8 ≡ e = omega arith in
    let bit : bit_of Be bytes (8 * j + s + n) ≡ byte / 2 ^ e % 2 =
    ap (λ (k : ℕ). slice_index bytes k / 2 ^ (7 - (8 * j + s + n) % 8) % 2) index ∙ ap (λ (k : ℕ). byte / 2 ^ k % 2) place in
    let more : number Be bytes (8 * j + s) (suc n) ≡ 2 * number Be bytes (8 * j + s) n + bit_of Be bytes (8 * j + s + n) =
    ap (number Be bytes (8 * j + s)) (sym (add-one n)) ∙ number-be bytes (8 * j + s) n in
    let before = in_byte-be bytes j s n (e + 1) (omega arith) in
    let split : byte / 2 ^ e % 2 ^ (n + 1) ≡ byte / 2 ^ (e + 1) % 2 ^ n * 2 + byte / 2 ^ e % 2 =
    mod-pow-add (byte / 2 ^ e) n 1 ∙ ap (λ (k : ℕ). k % 2 ^ n * 2 + byte / 2 ^ e % 2) (shr-shr byte e 1) in
    more ∙ rw (bit, before) (omega arith) ∙ sym split ∙ ap (λ (k : ℕ). byte / 2 ^ e % 2 ^ k) (add-one n)

-- a whole byte
pub whole_byte-le : (bytes : List ℕ) (j : ℕ) → slice_index bytes j < 256 → number Le bytes (8 * j) 8 ≡ slice_index bytes j
whole_byte-le bytes j below =
    let start : 8 * j ≡ 8 * j + 0 = omega arith in
    ap (λ (k : ℕ). number Le bytes k 8) start ∙ in_byte-le bytes j 0 8 (omega arith) ∙ ap (λ (k : ℕ). k % 256) (div-one (slice_index bytes j)) ∙ mod-eq_of_lt below

pub whole_byte-be : (bytes : List ℕ) (j : ℕ) → slice_index bytes j < 256 → number Be bytes (8 * j) 8 ≡ slice_index bytes j
whole_byte-be bytes j below =
    let start : 8 * j ≡ 8 * j + 0 = omega arith in
    ap (λ (k : ℕ). number Be bytes k 8) start ∙ in_byte-be bytes j 0 8 0 (omega arith) ∙ ap (λ (k : ℕ). k % 256) (div-one (slice_index bytes j)) ∙ mod-eq_of_lt below

-- a number after the first f bytes
bit_of-drop : (order : Order) (bytes : List ℕ) (f k : ℕ) → bit_of order bytes (8 * f + k) ≡ bit_of order (drop f bytes) k
bit_of-drop Le bytes f k =
    let index : (8 * f + k) / 8 ≡ f + k / 8 = omega arith in
    let place : (8 * f + k) % 8 ≡ k % 8 = omega arith in
    rw (index, place, get_or-drop f bytes (k / 8) 0) refl
bit_of-drop Be bytes f k =
    let index : (8 * f + k) / 8 ≡ f + k / 8 = omega arith in
    let place : (8 * f + k) % 8 ≡ k % 8 = omega arith in
    rw (index, place, get_or-drop f bytes (k / 8) 0) refl

pub number-drop : (order : Order) (bytes : List ℕ) (f p n : ℕ) → number order bytes (8 * f + p) n ≡ number order (drop f bytes) p n
number-drop order bytes f p zero = number-zero order bytes (8 * f + p) ∙ sym (number-zero order (drop f bytes) p)
number-drop Le bytes f p (suc n) =
    let place : 8 * f + p + n ≡ 8 * f + (p + n) = omega arith in
    rw (← add-one n, number-le bytes (8 * f + p) n, number-le (drop f bytes) p n, place, bit_of-drop Le bytes f (p + n), number-drop Le bytes f p n) refl
number-drop Be bytes f p (suc n) =
    let place : 8 * f + p + n ≡ 8 * f + (p + n) = omega arith in
    rw (← add-one n, number-be bytes (8 * f + p) n, number-be (drop f bytes) p n, place, bit_of-drop Be bytes f (p + n), number-drop Be bytes f p n) refl
