-- Reading a constant is what the definition of constants says.
use Rattle.std.proofs.Common.{◌≡◌, ℕ, ◌<◌, ◌≤◌, ◌^◌, Bool, true, false, cond, not, ◌&&◌, ◌||◌, List, [], ◌∷◌, ◌++◌, length, take, drop, Option, Some, None, refl, sym, ap, subst, ◌∙◌, arith, ◌⊎◌, inl, inr, ⊎_elim, eqb, leb}
use Rattle.std.specs.List.{list_all}
use Rattle.std.specs.Char.{is_digit, is_ascii_digit}
use Rattle.std.proofs.lemmas.List.{length-append, take_at, drop_at}
use Rattle.std.proofs.lemmas.Bool.{eqb-true, eqb-false, ne_eqb, lt-leb, leb-false, or_parts, or_cases, and_parts, not-false, and_left, or_left, or_right}
use Rattle.ctf_list.specs.Prefix.{begins}
use Rattle.tsdl_text.specs.Bytes.{number, AreDigits, is_word_byte}
use Rattle.tsdl_text.specs.Strings.{digit_count}
use Rattle.tsdl_text.specs.Constants.{is_u, is_l, is_suffix, Mark, decimal, octal, hexadecimal, IsConstant}
use Rattle.tsdl_text.specs.Scanning.{unmarked_value, is_hexadecimal, begins_with_zero, constant_value}
use Rattle.ctf_list.proofs.Prefix.{list_all-both, limited, limited_is, list_all_also}
use Rattle.ctf_list.proofs.Options.{none_or, either_way}
use Rattle.tsdl_text.proofs.ByteFacts.{digit_is_word, decimal_is_digit}

-- ---- suffixes

-- a letter of a suffix
abbrev is_ul : ℕ → Bool
is_ul c = is_u c || is_l c

ul_first : (a b : Bool) (x y : Bool) → ((a && x) || (b && y)) ≡ true → (a || b) ≡ true
ul_first true b x y e = refl
ul_first false true x y e = refl
ul_first false false x y e = absurd cc

-- a suffix begins with such a letter, if it begins
pub suffix_first : (c : ℕ) (s : List ℕ) → is_suffix (c ∷ s) ≡ true → is_ul c ≡ true
unfolding is_suffix
suffix_first c [] e = e
suffix_first c (b ∷ []) e = ul_first (is_u c) (is_l c) _ _ e
suffix_first c (b ∷ d ∷ []) e = ul_first (is_u c) (is_l c) _ _ e
suffix_first c (b ∷ d ∷ f ∷ s) e = absurd cc

-- a test that fails at `u`, `U`, `l` and `L` fails at such a letter
by_letters : (p : ℕ → Bool) (v : Bool) → p 117 ≡ v → p 85 ≡ v → p 108 ≡ v → p 76 ≡ v → (c : ℕ) → is_ul c ≡ true → p c ≡ v
unfolding is_u is_l
by_letters p v a b d f c e =
    ⊎_elim
    (λ h. ⊎_elim (λ k. ap p (eqb-true c 117 k) ∙ a) (λ k. ap p (eqb-true c 85 k) ∙ b) (or_cases _ _ h))
    (λ h. ⊎_elim (λ k. ap p (eqb-true c 108 k) ∙ d) (λ k. ap p (eqb-true c 76 k) ∙ f) (or_cases _ _ h))
    (or_cases (is_u c) (is_l c) e)

suffix_begins : (p : ℕ → Bool) → p 117 ≡ false → p 85 ≡ false → p 108 ≡ false → p 76 ≡ false → (s : List ℕ) → is_suffix s ≡ true → begins p s ≡ false
suffix_begins p a b d f [] e = refl
suffix_begins p a b d f (c ∷ s) e = by_letters p false a b d f c (suffix_first c s e)

u_is_ul : (c : ℕ) → is_u c ≡ true → is_ul c ≡ true
u_is_ul c e = or_left (is_u c) (is_l c) e

l_is_ul : (c : ℕ) → is_l c ≡ true → is_ul c ≡ true
l_is_ul c e = or_right (is_u c) (is_l c) e

ul_is_word : (c : ℕ) → is_ul c ≡ true → is_word_byte c ≡ true
unfolding is_word_byte
ul_is_word c e = by_letters is_word_byte true refl refl refl refl c e

two_words : (a b : ℕ) → is_ul a ≡ true → is_ul b ≡ true → list_all is_word_byte (a ∷ b ∷ []) ≡ true
two_words a b h k = let x = ul_is_word a h in let y = ul_is_word b k in cc

pub suffix_is_word : (s : List ℕ) → is_suffix s ≡ true → list_all is_word_byte s ≡ true
unfolding is_suffix
suffix_is_word [] e = refl
suffix_is_word (a ∷ []) e = let x = ul_is_word a e in cc
suffix_is_word (a ∷ b ∷ []) e =
    ⊎_elim
    (λ h. let p = and_parts (is_u a) (is_l b) h in two_words a b (u_is_ul a p.0) (l_is_ul b p.1))
    (λ h. let p = and_parts (is_l a) (eqb b a || is_u b) h in
    ⊎_elim (λ k. let s = eqb-true b a k in two_words a b (l_is_ul a p.0) (l_is_ul b (subst (λ n. is_l n ≡ true) (sym s) p.0))) (λ k. two_words a b (l_is_ul a p.0) (u_is_ul b k)) (or_cases _ _ p.1))
    (or_cases _ _ e)
suffix_is_word (a ∷ b ∷ c ∷ []) e =
    ⊎_elim
    (λ h. let p = and_parts (is_u a) (is_l b && eqb c b) h in let q = and_parts (is_l b) (eqb c b) p.1 in
    three (ul_is_word a (u_is_ul a p.0)) (ul_is_word b (l_is_ul b q.0)) (ul_is_word c (l_is_ul c (subst (λ n. is_l n ≡ true) (sym (eqb-true c b q.1)) q.0))))
    (λ h. let p = and_parts (is_l a) (eqb b a && is_u c) h in let q = and_parts (eqb b a) (is_u c) p.1 in
    three (ul_is_word a (l_is_ul a p.0)) (ul_is_word b (l_is_ul b (subst (λ n. is_l n ≡ true) (sym (eqb-true b a q.0)) p.0))) (ul_is_word c (u_is_ul c q.1)))
    (or_cases _ _ e)
  where
    three : is_word_byte a ≡ true → is_word_byte b ≡ true → is_word_byte c ≡ true → list_all is_word_byte (a ∷ b ∷ c ∷ []) ≡ true
    three x y z = cc
suffix_is_word (a ∷ b ∷ c ∷ d ∷ s) e = absurd cc

-- ---- digits and a suffix

pub record Unmarked (base : ℕ) (bytes : List ℕ) (value : ℕ) : Type 0 where
  pub digits : List ℕ
  pub suffix : List ℕ
  pub whole : bytes ≡ digits ++ suffix
  pub digits_of : AreDigits base digits
  pub suffixed : is_suffix suffix ≡ true
  pub value_is : value ≡ number base digits
  pub fits : value < 2 ^ 64

pub unmarked_parts : (base : ℕ) (bytes : List ℕ) (value : ℕ) → unmarked_value base bytes ≡ Some value → Unmarked base bytes value
unfolding unmarked_value
unmarked_parts base bytes value e =
    let count = digit_count base (length bytes) bytes in
    let n = number base (take count bytes) in
    let h = none_or (eqb count 0 || (not (is_suffix (drop count bytes)) || leb (2 ^ 64) n)) n value e in
    let parts = or_parts (eqb count 0) (not (is_suffix (drop count bytes)) || leb (2 ^ 64) n) h.0 in
    let more = or_parts (not (is_suffix (drop count bytes))) (leb (2 ^ 64) n) parts.1 in
    let l = limited (λ digit. is_digit digit base) (length bytes) bytes in
    let len : length l.front ≡ count = l.len in
    let front : take count bytes ≡ l.front = ap (take count) l.whole ∙ take_at l.front l.back count len in
    let back : drop count bytes ≡ l.back = ap (drop count) l.whole ∙ drop_at l.front l.back count len in
    let some = eqb-false count 0 parts.0 in
    let small = leb-false (2 ^ 64) n more.1 in
    let v = h.1 in
    record {
      digits = l.front;
      suffix = l.back;
      whole = l.whole;
      digits_of = record { some = omega arith; all = l.all };
      suffixed = ap is_suffix (sym back) ∙ not-false _ more.0;
      value_is = sym v ∙ ap (number base) front;
      fits = omega arith;
    }

unmarked_by : (base count value : ℕ) (suffixed : Bool) → 0 < count → suffixed ≡ true → value < 2 ^ 64 → cond {A = Option ℕ} (eqb count 0 || (not suffixed || leb (2 ^ 64) value)) None (Some value) ≡ Some value
unmarked_by base count value suffixed h k m =
    let a : eqb count 0 ≡ false = ne_eqb count 0 (λ z. absurd (omega arith)) in
    let b : leb (2 ^ 64) value ≡ false = lt-leb (2 ^ 64) value m in
    rw (a, k, b) refl

pub unmarked_is : (base : ℕ) (digits suffix : List ℕ) → AreDigits base digits → is_suffix suffix ≡ true → begins (λ digit. is_digit digit base) suffix ≡ false → number base digits < 2 ^ 64 → unmarked_value base (digits ++ suffix) ≡ Some (number base digits)
unfolding unmarked_value
unmarked_is base digits suffix are suffixed stops fits =
    let s = digits ++ suffix in
    let l = length-append digits suffix in
    let count : digit_count base (length s) s ≡ length digits = limited_is (λ digit. is_digit digit base) (length s) digits suffix are.all (omega arith) (λ h. stops) in
    let front = take_at digits suffix (length digits) refl in
    let back = drop_at digits suffix (length digits) refl in
    ap (λ n. cond {A = Option ℕ} (eqb n 0 || (not (is_suffix (drop n s)) || leb (2 ^ 64) (number base (take n s)))) None (Some (number base (take n s)))) count
    ∙ ap (λ ds. cond {A = Option ℕ} (eqb (length digits) 0 || (not (is_suffix (drop (length digits) s)) || leb (2 ^ 64) (number base ds))) None (Some (number base ds))) front
    ∙ ap (λ t. cond {A = Option ℕ} (eqb (length digits) 0 || (not (is_suffix t) || leb (2 ^ 64) (number base digits))) None (Some (number base digits))) back
    ∙ unmarked_by base (length digits) (number base digits) (is_suffix suffix) are.some suffixed fits

-- ---- marks

abbrev is_x : ℕ → Bool
is_x x = eqb x 120 || eqb x 88

not_zero_marked : (a : ℕ) (t : List ℕ) → eqb a 48 ≡ false → is_hexadecimal (a ∷ t) ≡ false
not_zero_marked a [] e = refl
not_zero_marked a (x ∷ t) e = and_left (eqb a 48) (is_x x) e

zero_unmarked : (t : List ℕ) → begins is_x t ≡ false → is_hexadecimal (48 ∷ t) ≡ false
zero_unmarked [] e = refl
zero_unmarked (x ∷ t) e = e

value_by : (bytes : List ℕ) (h z : Bool) → is_hexadecimal bytes ≡ h → begins_with_zero bytes ≡ z → constant_value bytes ≡ cond h (unmarked_value 16 (drop 2 bytes)) (unmarked_value (cond z 8 10) bytes)
unfolding constant_value
value_by bytes h z e f = ap (λ b. cond b (unmarked_value 16 (drop 2 bytes)) (unmarked_value (cond (begins_with_zero bytes) 8 10) bytes)) e ∙ ap (λ b. cond h (unmarked_value 16 (drop 2 bytes)) (unmarked_value (cond b 8 10) bytes)) f

x_is : (x : ℕ) → (x ≡ 120) ⊎ (x ≡ 88) → is_x x ≡ true
x_is x (inl e) = ap is_x e
x_is x (inr e) = ap is_x e

-- octal digits and a suffix do not begin with `x`
octal_no_x : (digits suffix : List ℕ) → list_all (λ digit. is_digit digit 8) digits ≡ true → is_suffix suffix ≡ true → begins is_x (digits ++ suffix) ≡ false
octal_no_x [] suffix all suffixed = suffix_begins is_x refl refl refl refl suffix suffixed
octal_no_x (d ∷ digits) suffix all suffixed =
    let parts = and_parts (is_digit d 8) (list_all (λ digit. is_digit digit 8) digits) all in
    no_x d parts.0 (is_x d) refl
  where
    no_x : (d : ℕ) → is_digit d 8 ≡ true → (b : Bool) → is_x d ≡ b → is_x d ≡ false
    no_x d o false e = e
    no_x d o true e =
        ⊎_elim (λ h. let f : is_digit 120 8 ≡ true = subst (λ n. is_digit n 8 ≡ true) (eqb-true d 120 h) o in absurd cc) (λ h. let f : is_digit 88 8 ≡ true = subst (λ n. is_digit n 8 ≡ true) (eqb-true d 88 h) o in absurd cc) (or_cases _ _ e)

marked_is : (base : ℕ) (mark digits suffix : List ℕ) → Mark base mark digits → AreDigits base digits → is_suffix suffix ≡ true → number base digits < 2 ^ 64 → constant_value (mark ++ (digits ++ suffix)) ≡ Some (number base digits)
marked_is _ _ _ suffix (decimal {first} {digits} other) are suffixed fits =
    value_by (first ∷ (digits ++ suffix)) false false (not_zero_marked first (digits ++ suffix) (ne_eqb first 48 other)) (ne_eqb first 48 other)
    ∙ unmarked_is 10 (first ∷ digits) suffix are suffixed (suffix_begins (λ digit. is_digit digit 10) refl refl refl refl suffix suffixed) fits
marked_is _ _ _ suffix (octal {digits}) are suffixed fits =
    let parts = and_parts (is_digit 48 8) (list_all (λ digit. is_digit digit 8) digits) are.all in
    value_by (48 ∷ (digits ++ suffix)) false true (zero_unmarked (digits ++ suffix) (octal_no_x digits suffix parts.1 suffixed)) refl
    ∙ unmarked_is 8 (48 ∷ digits) suffix are suffixed (suffix_begins (λ digit. is_digit digit 8) refl refl refl refl suffix suffixed) fits
marked_is _ _ _ suffix (hexadecimal {x} {digits} is) are suffixed fits =
    value_by (48 ∷ x ∷ (digits ++ suffix)) true true (x_is x is) refl
    ∙ unmarked_is 16 digits suffix are suffixed (suffix_begins (λ digit. is_digit digit 16) refl refl refl refl suffix suffixed) fits

pub constant_value-is : (bytes : List ℕ) (value : ℕ) → IsConstant bytes value → constant_value bytes ≡ Some value
constant_value-is bytes value is =
    ap constant_value is.joined ∙ marked_is is.base is.mark is.digits is.suffix is.marked is.digits_of is.suffixed (subst (λ n. n < 2 ^ 64) is.value_is is.fits) ∙ ap Some (sym is.value_is)

-- ---- what is read is a constant

constant_from : (base : ℕ) (mark bytes : List ℕ) (value : ℕ) (u : Unmarked base bytes value) → Mark base mark u.digits → IsConstant (mark ++ bytes) value
constant_from base mark bytes value u m =
    record { base = base; mark = mark; digits = u.digits; suffix = u.suffix; marked = m; digits_of = u.digits_of; suffixed = u.suffixed; joined = ap (λ t. mark ++ t) u.whole; value_is = u.value_is; fits = u.fits }

-- the first digit is the first byte
first_digit : (base first : ℕ) (t digits suffix : List ℕ) → first ∷ t ≡ digits ++ suffix → 0 < length digits → (rest : List ℕ) × (digits ≡ first ∷ rest)
first_digit base first t [] suffix e h = absurd (omega arith)
first_digit base first t (d ∷ digits) suffix e h = (digits, let s : first ≡ d = cc in ap (λ (n : ℕ). n ∷ digits) (sym s))

unhexed : (bytes : List ℕ) (value : ℕ) → is_hexadecimal bytes ≡ true → unmarked_value 16 (drop 2 bytes) ≡ Some value → IsConstant bytes value
unhexed [] value e h = absurd cc
unhexed (a ∷ []) value e h = absurd cc
unhexed (a ∷ x ∷ t) value e h =
    let parts = and_parts (eqb a 48) (is_x x) e in
    let u = unmarked_parts 16 t value h in
    let x_of : (x ≡ 120) ⊎ (x ≡ 88) = ⊎_elim (λ k. inl (eqb-true x 120 k)) (λ k. inr (eqb-true x 88 k)) (or_cases _ _ parts.1) in
    subst (λ (n : ℕ). IsConstant (n ∷ x ∷ t) value) (sym (eqb-true a 48 parts.0)) (constant_from 16 (48 ∷ x ∷ []) t value u (hexadecimal x_of))

plain_from : (bytes : List ℕ) (value : ℕ) (z : Bool) → begins_with_zero bytes ≡ z → unmarked_value (cond z 8 10) bytes ≡ Some value → IsConstant bytes value
plain_from [] value true e h = absurd cc
plain_from [] value false e h = let u = unmarked_parts 10 [] value h in let l = ap length u.whole in let m = length-append u.digits u.suffix in absurd (omega (arith, u.digits_of.some))
plain_from (a ∷ t) value true e h =
    let u = unmarked_parts 8 (a ∷ t) value h in
    let f = first_digit 8 a t u.digits u.suffix u.whole u.digits_of.some in
    constant_from 8 [] (a ∷ t) value u (subst (λ ds. Mark 8 [] ds) (sym f.1) (subst (λ (n : ℕ). Mark 8 [] (n ∷ f.0)) (sym (eqb-true a 48 e)) octal))
plain_from (a ∷ t) value false e h =
    let u = unmarked_parts 10 (a ∷ t) value h in
    let f = first_digit 10 a t u.digits u.suffix u.whole u.digits_of.some in
    constant_from 10 [] (a ∷ t) value u (subst (λ ds. Mark 10 [] ds) (sym f.1) (decimal (eqb-false a 48 e)))

pub constant_from_value : (bytes : List ℕ) (value : ℕ) → constant_value bytes ≡ Some value → IsConstant bytes value
unfolding constant_value
constant_from_value bytes value e =
    ⊎_elim (λ h. unhexed bytes value h.0 h.1) (λ h. plain_from bytes value (begins_with_zero bytes) refl h.1)
    (either_way (is_hexadecimal bytes) (unmarked_value 16 (drop 2 bytes)) (unmarked_value (cond (begins_with_zero bytes) 8 10) bytes) value e)

-- ---- a constant is letters and digits, the first of them a digit

digits_are_word : (base : ℕ) (digits : List ℕ) → base ≤ 16 → list_all (λ digit. is_digit digit base) digits ≡ true → list_all is_word_byte digits ≡ true
digits_are_word base digits h e = list_all_also (λ digit. is_digit digit base) is_word_byte (λ b k. digit_is_word base b h k) digits e

x_is_word : (x : ℕ) → (x ≡ 120) ⊎ (x ≡ 88) → is_word_byte x ≡ true
unfolding is_word_byte
x_is_word x (inl e) = ap is_word_byte e
x_is_word x (inr e) = ap is_word_byte e

marked_is_word : (base : ℕ) (mark digits suffix : List ℕ) → Mark base mark digits → AreDigits base digits → is_suffix suffix ≡ true → list_all is_word_byte (mark ++ (digits ++ suffix)) ≡ true
unfolding is_word_byte
marked_is_word _ _ _ suffix (decimal {first} {digits} other) are suffixed = list_all-both is_word_byte (first ∷ digits) suffix (digits_are_word 10 (first ∷ digits) (omega arith) are.all) (suffix_is_word suffix suffixed)
marked_is_word _ _ _ suffix (octal {digits}) are suffixed = list_all-both is_word_byte (48 ∷ digits) suffix (digits_are_word 8 (48 ∷ digits) (omega arith) are.all) (suffix_is_word suffix suffixed)
marked_is_word _ _ _ suffix (hexadecimal {x} {digits} is) are suffixed =
    let rest = list_all-both is_word_byte digits suffix (digits_are_word 16 digits (omega arith) are.all) (suffix_is_word suffix suffixed) in
    ap (λ (b : Bool). b && list_all is_word_byte (digits ++ suffix)) (x_is_word x is) ∙ rest

pub constant_is_word : (bytes : List ℕ) (value : ℕ) → IsConstant bytes value → list_all is_word_byte bytes ≡ true
constant_is_word bytes value is = ap (list_all is_word_byte) is.joined ∙ marked_is_word is.base is.mark is.digits is.suffix is.marked is.digits_of is.suffixed

marked_begins : (base : ℕ) (mark digits suffix : List ℕ) → Mark base mark digits → AreDigits base digits → begins is_ascii_digit (mark ++ (digits ++ suffix)) ≡ true
marked_begins _ _ _ suffix (decimal {first} {digits} other) are = decimal_is_digit first ((and_parts (is_digit first 10) (list_all (λ digit. is_digit digit 10) digits) are.all).0)
marked_begins _ _ _ suffix (octal {digits}) are = refl
marked_begins _ _ _ suffix (hexadecimal {x} {digits} is) are = refl

pub constant_begins : (bytes : List ℕ) (value : ℕ) → IsConstant bytes value → begins is_ascii_digit bytes ≡ true
constant_begins bytes value is = ap (begins is_ascii_digit) is.joined ∙ marked_begins is.base is.mark is.digits is.suffix is.marked is.digits_of
