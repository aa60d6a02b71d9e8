-- The clock's steps are those that `moving` gives.
use Rattle.std.proofs.Common.{◌≡◌, ℕ, zero, suc, ℤ, pos, ◌+◌, ◌-◌, ◌*◌, ◌%◌, ◌/◌, ◌^◌, ◌<◌, ◌≤◌, ◌-ℤ◌, true, false, cond, nat_lt, List, [], ◌∷◌, ◌++◌, refl, sym, ap, ◌∙◌, subst, inl, inr, arith}
use lib.IntN.{negsuc}
use Rattle.std.proofs.lemmas.Bool.{cases_lt, lt-ltb}
use Rattle.std.proofs.lemmas.Int.{ints}
use Rattle.std.proofs.lemmas.Nat.{mod_low, pow-add, pow_pos, shr_high}
use Rattle.std.proofs.Math.Nat.{add-mul, div-eq_of_lt, mod-eq_of_lt, pow-le-pow_right}
use Rattle.ctf_bits.specs.Number.{number, signed_number}
use Rattle.ctf_bits.proofs.Numbers.{number-lt}
use Rattle.ctf_bits.proofs.Signs.{signed_number-number}
use Rattle.ctf_class.specs.declared.integer.Integer.{Integer}
use Rattle.ctf_class.specs.Integers.{bits_of}
use Rattle.ctf_decode.specs.Values.{Val, unsigned, signed, label, text, group, list, choice, vals_of}
use Rattle.ctf_decode.specs.Forms.{Form, Parts, integer, enumeration, string, structure, variant, array, text as text_form, no_parts, part}
use Rattle.ctf_decode.specs.Input.{Input, Env, integer_at}
use Rattle.ctf_decode.specs.Fields as fields
use Rattle.ctf_decode.specs.Fields.{members_in, elements_in, choice_in, of_each, of_choice}
use Rattle.ctf_decode.specs.Stands.{Stands}
use Rattle.ctf_packet.specs.Held.{IsSigned, IsHeld, IsWidth, HasWidths, HaveWidths}
use Rattle.ctf_packet.specs.Moved.{low_bits, unsigned_pair, signed_pair, moved_in, moved, member_moved, option_moved}
use Rattle.ctf_packet.proofs.Conforming.{Each, Conforms, ConformAll, ConformsOption, stands_conform}

abbrev one_step : ℕ → ℕ → List (ℕ × ℕ)
one_step n y = (n, y) ∷ []

-- a number that is below a bound
below : (n x y b : ℕ) → x < b → one_step n y ≡ cond (nat_lt x b) (one_step n y) []
below n x y b h = ap (λ t. cond t (one_step n y) []) (sym (lt-ltb x b h))

-- the lowest bits of a number that is held
low_pos : (n x : ℕ) → IsWidth n → x < 2 ^ (n - 1) → low_bits (pos x) n ≡ x
low_pos n x w h =
    let less : 2 ^ (n - 1) ≤ 2 ^ n = pow-le-pow_right {n = 2} (omega arith) (omega arith) in
    mod-eq_of_lt (omega arith)

low_negsuc : (n x : ℕ) → IsWidth n → x < 2 ^ (n - 1) → low_bits (negsuc x) n ≡ 2 ^ n - suc x
low_negsuc n x w h =
    let less : 2 ^ (n - 1) ≤ 2 ^ n = pow-le-pow_right {n = 2} (omega arith) (omega arith) in
    let count : n + (64 - n) ≡ 64 = omega (arith, w.1) in
    let count_2 : 64 - n + n ≡ 64 = omega (arith, w.1) in
    let word : 2 ^ (64 - n) * 2 ^ n ≡ 2 ^ 64 = sym (pow-add 2 (64 - n) n) ∙ ap (λ (k : ℕ). 2 ^ k) count_2 in
    let one : (2 ^ (64 - n) - 1) * 2 ^ n + 2 ^ n ≡ 2 ^ (64 - n) * 2 ^ n = unit (2 ^ (64 - n)) (2 ^ n) (pow_pos (64 - n)) in
    let parts : 2 ^ 64 - suc x ≡ (2 ^ (64 - n) - 1) * 2 ^ n + (2 ^ n - suc x) = omega arith in
    ap (λ y. y % 2 ^ n) parts ∙ mod_low (2 ^ (64 - n) - 1) n (2 ^ n - suc x) (omega (arith, pow_pos n))
  where
    unit : (a b : ℕ) → 1 ≤ a → (a - 1) * b + b ≡ a * b
    unit a b h = let e : a ≡ a - 1 + 1 = omega arith in sym (ap (λ c. c * b) e ∙ add-mul (a - 1) 1 b ∙ omega arith)

signed_same : (n : ℕ) (z : ℤ) → IsWidth n → IsSigned n z → one_step n (low_bits z n) ≡ fields.bits_pair n z
signed_same n (pos x) w h = ap (one_step n) (low_pos n x w h) ∙ below n x x (2 ^ (n - 1)) h
signed_same n (negsuc x) w h = ap (one_step n) (low_negsuc n x w h) ∙ below n x (2 ^ n - suc x) (2 ^ (n - 1)) h

signed_pair_same : (n : ℕ) (v : Val) → IsWidth n → IsHeld n v → signed_pair n v ≡ fields.signed_pair n v
signed_pair_same n (signed z) w h = signed_same n z w h
signed_pair_same n (unsigned x) w h = refl
signed_pair_same n (label z) w h = refl
signed_pair_same n (text bytes) w h = refl
signed_pair_same n (group vs) w h = refl
signed_pair_same n (list vs) w h = refl
signed_pair_same n (choice i v) w h = refl

unsigned_pair_same : (n : ℕ) (v : Val) → IsHeld n v → unsigned_pair n v ≡ fields.unsigned_pair n v
unsigned_pair_same n (unsigned x) h = below n x x (2 ^ n) h
unsigned_pair_same n (signed z) h = refl
unsigned_pair_same n (label z) h = refl
unsigned_pair_same n (text bytes) h = refl
unsigned_pair_same n (group vs) h = refl
unsigned_pair_same n (list vs) h = refl
unsigned_pair_same n (choice i v) h = refl

pub integers_same : (i : Integer) (v : Val) → IsWidth i.size → IsHeld i.size v → moved_in i v ≡ fields.moved_in i v
integers_same i v w h =
    ap (λ ps. cond i.is_moving ps []) (λ j. cond i.is_signed (signed_pair_same i.size v w h j) (unsigned_pair_same i.size v h j))

-- what is read is held by its width
abbrev IsRead : Integer → Val → Type 0
IsRead i v = IsWidth i.size → IsHeld i.size v

signed_held : (n v : ℕ) (z : ℤ) → 1 ≤ n → v < 2 ^ n → z ≡ pos v -ℤ pos (v / 2 ^ (n - 1) * 2 ^ n) → IsSigned n z
signed_held n v z some bits e = elim (cases_lt v (2 ^ (n - 1))) [ inl low ↦ first low | inr high ↦ second high ]
  where
    double : 2 ^ n ≡ 2 ^ (n - 1) * 2
    double = let count : n ≡ n - 1 + 1 = omega arith in ap (λ (k : ℕ). 2 ^ k) count ∙ pow-add 2 (n - 1) 1

    first : v < 2 ^ (n - 1) → IsSigned n z
    first low =
        let none : v / 2 ^ (n - 1) ≡ 0 = div-eq_of_lt low in
        let plain : pos v -ℤ pos (0 * 2 ^ n) ≡ pos v = omega (arith, ints) in
        subst (IsSigned n) (sym (e ∙ ap (λ (q : ℕ). pos v -ℤ pos (q * 2 ^ n)) none ∙ plain)) low

    second : 2 ^ (n - 1) ≤ v → IsSigned n z
    second high =
        let whole : v ≡ 1 * 2 ^ (n - 1) + (v - 2 ^ (n - 1)) = omega arith in
        let one : v / 2 ^ (n - 1) ≡ 1 = ap (λ (x : ℕ). x / 2 ^ (n - 1)) whole ∙ shr_high 1 (n - 1) (v - 2 ^ (n - 1)) (omega (arith, double)) in
        let y : ℕ = 2 ^ n - v - 1 in
        let less : pos v -ℤ pos (1 * 2 ^ n) ≡ negsuc y = omega (arith, ints) in
        let small : y < 2 ^ (n - 1) = omega (arith, double) in
        subst (IsSigned n) (sym (e ∙ ap (λ (q : ℕ). pos v -ℤ pos (q * 2 ^ n)) one ∙ less)) small

read_held : (c : Input) (i : Integer) (b : ℕ) → IsRead i (integer_at c i b)
read_held c i b w =
    let size : bits_of i ≡ i.size = omega (arith, w.0) in
    let low : number i.order c.packet b (bits_of i) < 2 ^ i.size = subst (λ n. number i.order c.packet b (bits_of i) < 2 ^ n) size (number-lt i.order c.packet b (bits_of i)) in
    let high : IsSigned i.size (signed_number i.order c.packet b (bits_of i)) =
    subst (λ n. IsSigned n (signed_number i.order c.packet b (bits_of i))) size
    (signed_held (bits_of i) (number i.order c.packet b (bits_of i)) _ (omega arith) (number-lt i.order c.packet b (bits_of i))
    (sym (signed_number-number i.order c.packet b (bits_of i) _ (omega arith) refl))) in
    elim i.is_signed as (λ t. IsHeld i.size (cond t (signed (signed_number i.order c.packet b (bits_of i))) (unsigned (number i.order c.packet b (bits_of i))))) [ true ↦ high | false ↦ low ]

each_same : (f g : Val → List (ℕ × ℕ)) (T : Val → Type 0) → ((v : Val) → T v → f v ≡ g v) → (vs : List Val) → Each T vs → of_each f (vals_of vs) ≡ of_each g (vals_of vs)
each_same f g T one [] h = refl
each_same f g T one (v ∷ vs) h = λ j. one v h.0 j ++ each_same f g T one vs h.1 j

mutual
  same : (k : Form) (v : Val) → HasWidths k → Conforms IsRead k v → moved k v ≡ fields.moved k v
  same (integer a i) v w h = integers_same i v w (h w)
  same (enumeration a i) v w h = refl
  same (string a) v w h = refl
  same (text_form a many) v w h = refl
  same (structure a ps) v w h =
      subst (λ u. member_moved ps (members_in u) ≡ fields.member_moved ps (members_in u)) (sym h.1) (same_members ps h.0 w h.2)
  same (variant a tag choices ps) v w h =
      subst (λ u. of_choice (choice_in u) (λ i x. option_moved ps i x) ≡ of_choice (choice_in u) (λ i x. fields.option_moved ps i x)) (sym h.2) (same_option ps h.0 h.1 w h.3)
  same (array a many k) v w h =
      subst (λ u. of_each (moved k) (elements_in u) ≡ of_each (fields.moved k) (elements_in u)) (sym h.1) (each_same (moved k) (fields.moved k) (Conforms IsRead k) (λ x t. same k x w t) h.0 h.2)

  same_members : (ps : Parts) (vs : List Val) → HaveWidths ps → ConformAll IsRead ps vs → member_moved ps (vals_of vs) ≡ fields.member_moved ps (vals_of vs)
  same_members no_parts vs w h = refl
  same_members (part n k ps) vs w h =
      let one = same k h.0 w.0 h.3 in
      let more = same_members ps h.1 w.1 h.4 in
      subst (λ us. member_moved (part n k ps) (vals_of us) ≡ fields.member_moved (part n k ps) (vals_of us)) (sym h.2) (λ j. one j ++ more j)

  same_option : (ps : Parts) (i : ℕ) (v : Val) → HaveWidths ps → ConformsOption IsRead ps i v → option_moved ps i v ≡ fields.option_moved ps i v
  same_option no_parts i v w h = refl
  same_option (part n k ps) zero v w h = same k v w.0 h
  same_option (part n k ps) (suc i) v w h = same_option ps i v w.1 h

pub values_same : (k : Form) (c : Input) (env : Env) (p : ℕ) (v : Val) (q : ℕ) → HasWidths k → Stands k c env p v q → moved k v ≡ fields.moved k v
values_same k c env p v q w s = same k v w (stands_conform IsRead (λ d i b. read_held d i b) k c env p v q s)
