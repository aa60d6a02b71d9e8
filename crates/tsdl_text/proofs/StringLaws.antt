-- Reading a string is what the definition of strings says.
use Rattle.std.proofs.Common.{◌≡◌, ℕ, zero, suc, ◌+◌, ◌<◌, Bool, true, false, cond, ◌||◌, List, [], ◌∷◌, ◌++◌, length, take, drop, Option, Some, None, refl, sym, ap, subst, ◌∙◌, arith, ⊎_elim, eqb, ltb, append_assoc, one-add}
use Rattle.std.specs.Prelude.{option_and_then}
use Rattle.std.specs.Option.{option_map, option_map_or}
use Rattle.std.specs.List.{list_all}
use Rattle.std.specs.Char.{is_digit}
use Rattle.std.proofs.lemmas.List.{length-append, take_at, drop_at}
use Rattle.std.proofs.lemmas.Bool.{eqb-true, eqb-false, ne_eqb, le-ltb, or_parts, or_cases, and_parts}
use Rattle.ctf_list.specs.Prefix.{begins}
use Rattle.tsdl_text.specs.Bytes.{number}
use Rattle.tsdl_text.specs.Characters.{StandsFor, simple_escape, IsNumeric, Character, plain, escape, octal, hexadecimal, Closes, close, next}
use Rattle.tsdl_text.specs.Strings.{string_value, digit_count, numeric_at, escape_at, character_at}
use Rattle.tsdl_text.specs.Scanning.{closing_len, string_len}
use Rattle.ctf_list.proofs.Prefix.{limited, limited_is, begins-append}
use Rattle.std.proofs.lemmas.Option.{same_Some, option_and_then_some}
use Rattle.ctf_list.proofs.Options.{none_or, either_way, map_or_some, by_arm, map_some}
use Rattle.tsdl_text.proofs.StringLemmas.{string_value-rest, numeric_at-some, all_values, all_values-some, all_values-none}
use Rattle.tsdl_text.proofs.ScanLemmas.{string_here, string_later}

-- ---- numeric escapes

is_base : ℕ → ℕ → Bool
is_base base digit = is_digit digit base

-- a front and what is after it
pub record NumericFront (base most skipped : ℕ) (s : List ℕ) (x : ℕ × ℕ) : Type 0 where
  pub digits : List ℕ
  pub after : List ℕ
  pub whole : s ≡ digits ++ after
  pub is : IsNumeric base most digits after x.0
  pub len : x.1 ≡ skipped + length digits

pub numeric_front : (base most skipped : ℕ) (s : List ℕ) (x : ℕ × ℕ) → numeric_at base most skipped s ≡ Some x → NumericFront base most skipped s x
numeric_front base most skipped s x e =
    let n = numeric_at-some base most skipped s x e in
    let l = limited (λ digit. is_digit digit base) most s in
    let len : length l.front ≡ digit_count base most s = l.len in
    let some = n.some in
    let cut : take (digit_count base most s) s ≡ l.front = ap (take (digit_count base most s)) l.whole ∙ take_at l.front l.back _ len in
    record {
      digits = l.front;
      after = l.back;
      whole = l.whole;
      is = record {
        digits_of = record { some = omega arith; all = l.all };
        few = omega (arith, l.few);
        ends = λ h. l.stops (omega arith);
        value_is = n.value_is ∙ ap (number base) cut;
        is_byte = n.is_byte;
      };
      len = n.len_is ∙ ap (λ k. skipped + k) (sym len);
    }

numeric_by : (skipped count value : ℕ) → 0 < count → value < 256 → cond {A = Option (ℕ × ℕ)} (eqb count 0 || ltb 255 value) None (Some (value, skipped + count)) ≡ Some (value, skipped + count)
numeric_by skipped count value h k =
    let a : eqb count 0 ≡ false = ne_eqb count 0 (λ z. absurd (omega arith)) in
    let b : ltb 255 value ≡ false = le-ltb 255 value (omega arith) in
    rw (a, b) refl

pub numeric_at-is : (base most skipped : ℕ) (digits after : List ℕ) (value : ℕ) → IsNumeric base most digits after value → numeric_at base most skipped (digits ++ after) ≡ Some (value, skipped + length digits)
unfolding numeric_at
numeric_at-is base most skipped digits after value is =
    let s = digits ++ after in
    let count : digit_count base most s ≡ length digits = limited_is (λ digit. is_digit digit base) most digits after is.digits_of.all is.few is.ends in
    let number_is : number base (take (length digits) s) ≡ value = ap (number base) (take_at digits after (length digits) refl) ∙ sym is.value_is in
    ap (λ n. cond {A = Option (ℕ × ℕ)} (eqb n 0 || ltb 255 (number base (take n s))) None (Some (number base (take n s), skipped + n))) count
    ∙ ap (λ v. cond {A = Option (ℕ × ℕ)} (eqb (length digits) 0 || ltb 255 v) None (Some (v, skipped + length digits))) number_is
    ∙ numeric_by skipped (length digits) value is.digits_of.some is.is_byte

-- ---- escapes by one letter

-- such a letter is no `x` and no digit
pub record IsLetter (c : ℕ) : Type 0 where
  pub no_x : eqb c 120 ≡ false
  pub no_digit : is_digit c 8 ≡ false

letter_at : (c k : ℕ) → eqb k 120 ≡ false → is_digit k 8 ≡ false → eqb c k ≡ true → IsLetter c
letter_at c k a b e = let s : k ≡ c = sym (eqb-true c k e) in record { no_x = subst (λ n. eqb n 120 ≡ false) s a; no_digit = subst (λ n. is_digit n 8 ≡ false) s b }

pub letter : (c value : ℕ) → simple_escape c ≡ Some value → IsLetter c
unfolding simple_escape
letter c value e =
    by_arm _ _ _ value (λ t _. letter_at c 97 refl refl t)
    (by_arm _ _ _ value (λ t _. letter_at c 98 refl refl t)
    (by_arm _ _ _ value (λ t _. letter_at c 102 refl refl t)
    (by_arm _ _ _ value (λ t _. letter_at c 110 refl refl t)
    (by_arm _ _ _ value (λ t _. letter_at c 114 refl refl t)
    (by_arm _ _ _ value (λ t _. letter_at c 116 refl refl t)
    (by_arm _ _ _ value (λ t _. letter_at c 118 refl refl t)
    (by_arm _ _ _ value
    (λ t _. ⊎_elim (letter_at c 92 refl refl) (λ u. ⊎_elim (letter_at c 39 refl refl) (λ v. ⊎_elim (letter_at c 34 refl refl) (letter_at c 63 refl refl) (or_cases _ _ v)) (or_cases _ _ u)) (or_cases _ _ t))
    (λ z. absurd cc)))))))) e

pub digit_no_escape : (c : ℕ) (o : Option ℕ) → simple_escape c ≡ o → is_digit c 8 ≡ true → o ≡ None
digit_no_escape c None e d = refl
digit_no_escape c (Some value) e d = let l = letter c value e in absurd cc

-- ---- characters

numeric_before : (base most : ℕ) (digits after other : List ℕ) (value : ℕ) → ((p : ℕ → Bool) → begins p after ≡ begins p other) → IsNumeric base most digits after value → IsNumeric base most digits other value
numeric_before base most digits after other value same is =
    record { digits_of = is.digits_of; few = is.few; ends = λ h. sym (same (λ digit. is_digit digit base)) ∙ is.ends h; value_is = is.value_is; is_byte = is.is_byte }

-- what is after a character counts only by its first byte
pub character_before : {bytes after : List ℕ} {value : ℕ} (other : List ℕ) → ((p : ℕ → Bool) → begins p after ≡ begins p other) → Character bytes value after → Character bytes value other
character_before other same (plain is) = plain is
character_before other same (escape is) = escape is
character_before other same (octal {digits} {after} {value} is) = octal (numeric_before 8 3 digits after other value same is)
character_before other same (hexadecimal {digits} {after} {value} is) = hexadecimal (numeric_before 16 2 digits after other value same is)

escape_letter : (c value : ℕ) (after : List ℕ) → simple_escape c ≡ Some value → escape_at (c ∷ after) ≡ Some (value, 2)
unfolding escape_at
escape_letter c value after e =
    let l = letter c value e in
    ap (λ b. cond b (numeric_at 16 2 2 after) (option_map_or (λ v. Some (v, 2)) (simple_escape c) (numeric_at 8 3 1 (c ∷ after)))) l.no_x
    ∙ ap (λ o. option_map_or (λ v. Some (v, 2)) o (numeric_at 8 3 1 (c ∷ after))) e

digit_no_x : (c : ℕ) → is_digit c 8 ≡ true → eqb c 120 ≡ false
digit_no_x c d = ne_eqb c 120 (λ e. let f : is_digit 120 8 ≡ true = subst (λ n. is_digit n 8 ≡ true) e d in absurd cc)

escape_octal : (digits after : List ℕ) (value : ℕ) → IsNumeric 8 3 digits after value → escape_at (digits ++ after) ≡ Some (value, 1 + length digits)
unfolding escape_at
escape_octal [] after value is = absurd (omega (arith, is.digits_of.some))
escape_octal (c ∷ digits) after value is =
    let parts = and_parts (is_digit c 8) (list_all (λ digit. is_digit digit 8) digits) is.digits_of.all in
    let none : simple_escape c ≡ None = digit_no_escape c (simple_escape c) refl parts.0 in
    ap (λ b. cond b (numeric_at 16 2 2 (digits ++ after)) (option_map_or (λ v. Some (v, 2)) (simple_escape c) (numeric_at 8 3 1 (c ∷ (digits ++ after))))) (digit_no_x c parts.0)
    ∙ ap (λ o. option_map_or (λ v. Some (v, 2)) o (numeric_at 8 3 1 (c ∷ (digits ++ after)))) none
    ∙ numeric_at-is 8 3 1 (c ∷ digits) after value is

pub character_at-is : {bytes after : List ℕ} {value : ℕ} → Character bytes value after → character_at (bytes ++ after) ≡ Some (value, length bytes)
unfolding character_at escape_at
character_at-is (plain {b} {after} is) =
    let q = ne_eqb b 34 is.no_quote in
    let s = ne_eqb b 92 is.no_backslash in
    let n = ne_eqb b 10 is.no_newline in
    rw (s, q, n) refl
character_at-is (escape {c} {value} {after} is) = escape_letter c value after is
character_at-is (octal {digits} {after} {value} is) = escape_octal digits after value is ∙ ap (λ n. Some (value, n)) (one-add (length digits))
character_at-is (hexadecimal {digits} {after} {value} is) = numeric_at-is 16 2 2 digits after value is ∙ ap (λ n. Some (value, n)) (two_more (length digits))
  where
    two_more : (n : ℕ) → 2 + n ≡ suc (suc n)
    two_more n = omega arith

-- the character at the front
pub record CharacterFront (s : List ℕ) (x : ℕ × ℕ) : Type 0 where
  pub bytes : List ℕ
  pub after : List ℕ
  pub whole : s ≡ bytes ++ after
  pub is : Character bytes x.0 after
  pub len : x.1 ≡ length bytes

escape_front : (s : List ℕ) (x : ℕ × ℕ) → escape_at s ≡ Some x → CharacterFront (92 ∷ s) x
unfolding escape_at
escape_front [] x e = absurd cc
escape_front (c ∷ s) x e =
    ⊎_elim
    (λ h. let n = numeric_front 16 2 2 s x h.1 in
    let c_is : c ≡ 120 = eqb-true c 120 h.0 in
    record { bytes = 92 ∷ 120 ∷ n.digits; after = n.after; whole = ap (λ (k : ℕ). 92 ∷ k ∷ s) c_is ∙ ap (λ t. 92 ∷ 120 ∷ t) n.whole; is = hexadecimal n.is; len = n.len ∙ omega arith })
    (λ h. ⊎_elim
    (λ k. let p : (k.0, 2) ≡ x = same_Some _ _ k.2 in
    record { bytes = 92 ∷ c ∷ []; after = s; whole = refl; is = escape (k.1 ∙ ap (λ (y : ℕ × ℕ). Some y.0) p); len = sym (ap (λ (y : ℕ × ℕ). y.1) p) })
    (λ k. let n = numeric_front 8 3 1 (c ∷ s) x k.1 in
    record { bytes = 92 ∷ n.digits; after = n.after; whole = ap (λ t. 92 ∷ t) n.whole; is = octal n.is; len = n.len ∙ omega arith })
    (map_or_some (λ value. Some (value, 2)) (simple_escape c) (numeric_at 8 3 1 (c ∷ s)) x h.1))
    (either_way (eqb c 120) (numeric_at 16 2 2 s) (option_map_or (λ value. Some (value, 2)) (simple_escape c) (numeric_at 8 3 1 (c ∷ s))) x e)

pub character_front : (s : List ℕ) (x : ℕ × ℕ) → character_at s ≡ Some x → CharacterFront s x
unfolding character_at
character_front [] x e = absurd cc
character_front (b ∷ s) x e =
    ⊎_elim
    (λ h. subst (λ k. CharacterFront (k ∷ s) x) (sym (eqb-true b 92 h.0)) (escape_front s x h.1))
    (λ h. let k = none_or (eqb b 34 || eqb b 10) (b, 1) x h.1 in
    let parts = or_parts (eqb b 34) (eqb b 10) k.0 in
    let v : b ≡ x.0 = ap (λ (y : ℕ × ℕ). y.0) k.1 in
    record {
      bytes = b ∷ [];
      after = s;
      whole = refl;
      is = subst (λ value. Character (b ∷ []) value s) v (plain (record { no_quote = eqb-false b 34 parts.0; no_backslash = eqb-false b 92 h.0; no_newline = eqb-false b 10 parts.1 }));
      len = sym (ap (λ (y : ℕ × ℕ). y.1) k.1);
    })
    (either_way (eqb b 92) (escape_at s) (cond (eqb b 34 || eqb b 10) None (Some (b, 1))) x e)

-- ---- strings

pub closes_some : {inside values : List ℕ} → Closes inside values → 0 < length inside
closes_some close = omega arith
closes_some (next {bytes} {rest} {values} {value} c r) = let h = closes_some r in let l = length-append bytes rest in omega arith

no_quote : {bytes after : List ℕ} {value : ℕ} (t : List ℕ) → Character bytes value after → begins (λ b. eqb b 34) (bytes ++ t) ≡ false
no_quote t (plain {b} is) = ne_eqb b 34 is.no_quote
no_quote t (escape is) = refl
no_quote t (octal is) = refl
no_quote t (hexadecimal is) = refl

pub string_len-is : {inside values : List ℕ} (after : List ℕ) → Closes inside values → string_len (inside ++ after) ≡ Some (length inside)
string_len-is after close = string_here (34 ∷ after) refl
string_len-is after (next {bytes} {rest} {values} {value} c r) =
    let s = (bytes ++ rest) ++ after in
    let assoc : s ≡ bytes ++ (rest ++ after) = append_assoc bytes rest after in
    let some = closes_some r in
    let read : character_at s ≡ Some (value, length bytes) = ap character_at assoc ∙ character_at-is (character_before (rest ++ after) (λ p. sym (begins-append p rest after some)) c) in
    let first : begins (λ b. eqb b 34) s ≡ false = ap (begins (λ b. eqb b 34)) assoc ∙ no_quote (rest ++ after) c in
    let left : drop (length bytes) s ≡ rest ++ after = ap (drop (length bytes)) assoc ∙ drop_at bytes (rest ++ after) (length bytes) refl in
    string_later s (value, length bytes) first read
    ∙ ap (λ t. option_map (λ k. length bytes + k) (string_len t)) left
    ∙ ap (option_map (λ k. length bytes + k)) (string_len-is after r)
    ∙ ap Some (sym (length-append bytes rest))

pub string_values-are : {inside values : List ℕ} → Closes inside values → all_values inside ≡ values
unfolding character_at
string_values-are close = all_values-none (34 ∷ []) refl
string_values-are (next {bytes} {rest} {values} {value} c r) =
    all_values-some (bytes ++ rest) (value, length bytes) (character_at-is c)
    ∙ ap (λ t. value ∷ all_values t) (drop_at bytes rest (length bytes) refl)
    ∙ ap (λ vs. value ∷ vs) (string_values-are r)

-- the string whose inside is at the front
pub record StringFront (s : List ℕ) (n : ℕ) : Type 0 where
  pub inside : List ℕ
  pub after : List ℕ
  pub values : List ℕ
  pub whole : s ≡ inside ++ after
  pub is : Closes inside values
  pub len : n ≡ length inside

pub record ThenMore (x : ℕ × ℕ) (o : Option ℕ) (k : ℕ) : Type 0 where
  pub more : ℕ
  pub is : o ≡ Some more
  pub sum : k ≡ x.1 + more

quote_front : (s : List ℕ) (n : ℕ) → begins (λ b. eqb b 34) s ≡ true → Some 1 ≡ Some n → StringFront s n
quote_front [] n e h = absurd cc
quote_front (b ∷ s) n e h = record { inside = 34 ∷ []; after = s; values = []; whole = ap (λ (k : ℕ). k ∷ s) (eqb-true b 34 e); is = close; len = sym (same_Some 1 n h) }

string_join : (s : List ℕ) (x : ℕ × ℕ) (n m : ℕ) → CharacterFront s x → StringFront (drop x.1 s) m → n ≡ x.1 + m → StringFront s n
string_join s x n m c r e =
    let after : drop x.1 s ≡ c.after = ap (drop x.1) c.whole ∙ drop_at c.bytes c.after x.1 (sym c.len) in
    let after_is : c.after ≡ r.inside ++ r.after = sym after ∙ r.whole in
    let some = closes_some r.is in
    let l = length-append c.bytes r.inside in
    record {
      inside = c.bytes ++ r.inside;
      after = r.after;
      values = x.0 ∷ r.values;
      whole = c.whole ∙ ap (λ t. c.bytes ++ t) after_is ∙ sym (append_assoc c.bytes r.inside r.after);
      is = next (character_before r.inside (λ p. ap (begins p) after_is ∙ begins-append p r.inside r.after some) c.is) r.is;
      len = omega (arith, c.len, r.len);
    }

closing_front : (turns : ℕ) (s : List ℕ) (n : ℕ) → closing_len turns s ≡ Some n → StringFront s n
unfolding closing_len
closing_front zero s n e = absurd cc
closing_front (suc turns) s n e =
    ⊎_elim
    (λ h. quote_front s n h.0 h.1)
    (λ h. option_and_then_some (λ x. option_map (λ k. x.1 + k) (closing_len turns (drop x.1 s))) (character_at s) n h.1 (λ x is more.
    let b = map_some (λ k. x.1 + k) (closing_len turns (drop x.1 s)) n more in
    string_join s x n b.0 (character_front s x is) (closing_front turns (drop x.1 s) b.0 b.1) (sym b.2)))
    (either_way (begins (λ b. eqb b 34) s) (Some 1) (option_and_then (λ x. option_map (λ k. x.1 + k) (closing_len turns (drop x.1 s))) (character_at s)) n e)

pub string_front : (s : List ℕ) (n : ℕ) → string_len s ≡ Some n → StringFront s n
unfolding string_len
string_front s n e = closing_front (length s) s n e

-- ---- what a string stands for

pub strings_stand : (slice values : List ℕ) → StandsFor slice values → string_value slice ≡ values
strings_stand slice values stands = ap string_value stands.opened ∙ sym (string_value-rest (34 ∷ stands.inside)) ∙ string_values-are stands.closed
