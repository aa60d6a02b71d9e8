-- What reading one character of a string gives, and the bytes that a string stands for.
use Rattle.std.proofs.Common.{◌≡◌, ℕ, zero, suc, ◌+◌, ◌<◌, ◌≤◌, cond, ◌||◌, List, [], ◌∷◌, ◌++◌, length, take, drop, Option, Some, None, refl, sym, ap, ◌∙◌, arith, ⊎_elim, eqb, ltb, append_assoc}
use Rattle.std.specs.Option.{option_map_or}
use Rattle.std.specs.Char.{is_digit}
use Rattle.std.proofs.lemmas.List.{append-nil, length-drop, length-take}
use Rattle.std.proofs.lemmas.List.Sums.{prefix_len-le-length}
use Rattle.std.proofs.lemmas.Bool.{eqb-false, ltb-false, or_parts}
use Rattle.std.proofs.lemmas.Option.{same_Some}
use Rattle.ctf_list.proofs.Options.{none_or, either_way, map_or_some}
use Rattle.tsdl_text.specs.Bytes.{number}
use Rattle.tsdl_text.specs.Characters.{simple_escape}
use Rattle.tsdl_text.specs.Strings.{digit_count, numeric_at, escape_at, character_at, values, string_value}

-- ---- how far a character goes

-- the place where it ends is between two bounds
pub record Within (s : List ℕ) (low high : ℕ) (x : ℕ × ℕ) : Type 0 where
  pub low_is : low ≤ x.1
  pub high_is : x.1 ≤ high

pub digit_count-le : (base most : ℕ) (s : List ℕ) → digit_count base most s ≤ length s
digit_count-le base most s =
    let p = prefix_len-le-length (λ digit. is_digit digit base) (take most s) in
    let l = length-take most s in
    omega arith

-- what a numeric escape is read as
pub record NumericAt (base most skipped : ℕ) (s : List ℕ) (x : ℕ × ℕ) : Type 0 where
  pub some : 0 < digit_count base most s
  pub value_is : x.0 ≡ number base (take (digit_count base most s) s)
  pub len_is : x.1 ≡ skipped + digit_count base most s
  pub is_byte : x.0 < 256

pub numeric_at-some : (base most skipped : ℕ) (s : List ℕ) (x : ℕ × ℕ) → numeric_at base most skipped s ≡ Some x → NumericAt base most skipped s x
unfolding numeric_at
numeric_at-some base most skipped s x e =
    let count = digit_count base most s in
    let value = number base (take count s) in
    let h = none_or (eqb count 0 || ltb 255 value) (value, skipped + count) x e in
    let parts = or_parts (eqb count 0) (ltb 255 value) h.0 in
    let nonzero = eqb-false count 0 parts.0 in
    let small = ltb-false 255 value parts.1 in
    let v : x.0 ≡ value = sym (ap (λ (y : ℕ × ℕ). y.0) h.1) in
    record {
      some = omega arith;
      value_is = v;
      len_is = sym (ap (λ (y : ℕ × ℕ). y.1) h.1);
      is_byte = omega arith;
    }

pub escape_at-bounds : (s : List ℕ) (x : ℕ × ℕ) → escape_at s ≡ Some x → (2 ≤ x.1) × (x.1 ≤ 1 + length s)
unfolding escape_at
escape_at-bounds [] x e = absurd cc
escape_at-bounds (c ∷ s) x e =
    ⊎_elim
    (λ h. let n = numeric_at-some 16 2 2 s x h.1 in let l = digit_count-le 16 2 s in (omega (arith, n.len_is), omega (arith, n.len_is)))
    (λ h. ⊎_elim
    (λ k. let e : (k.0, 2) ≡ x = same_Some _ _ k.2 in let f : 2 ≡ x.1 = ap (λ (y : ℕ × ℕ). y.1) e in (omega arith, omega arith))
    (λ k. let n = numeric_at-some 8 3 1 (c ∷ s) x k.1 in let l = digit_count-le 8 3 (c ∷ s) in (omega (arith, n.len_is, n.some), omega (arith, n.len_is)))
    (map_or_some (λ value. Some (value, 2)) (simple_escape c) (numeric_at 8 3 1 (c ∷ s)) x h.1))
    (either_way (eqb c 120) (numeric_at 16 2 2 s) (option_map_or (λ value. Some (value, 2)) (simple_escape c) (numeric_at 8 3 1 (c ∷ s))) x e)

pub character_at-bounds : (s : List ℕ) (x : ℕ × ℕ) → character_at s ≡ Some x → (0 < x.1) × (x.1 ≤ length s)
unfolding character_at
character_at-bounds [] x e = absurd cc
character_at-bounds (b ∷ s) x e =
    ⊎_elim
    (λ h. let n = escape_at-bounds s x h.1 in (omega arith, omega arith))
    (λ h. let k = none_or (eqb b 34 || eqb b 10) (b, 1) x h.1 in let f : 1 ≡ x.1 = ap (λ (y : ℕ × ℕ). y.1) k.1 in (omega arith, omega arith))
    (either_way (eqb b 92) (escape_at s) (cond (eqb b 34 || eqb b 10) None (Some (b, 1))) x e)

-- ---- the bytes that characters stand for

-- a count of turns that reaches the end of the text is as good as another
values_by : (m n : ℕ) (s : List ℕ) (o : Option (ℕ × ℕ)) → ((t : List ℕ) → length t ≤ m → length t ≤ n → values m t ≡ values n t) → character_at s ≡ o → length s ≤ suc m → length s ≤ suc n → option_map_or (λ x. x.0 ∷ values m (drop x.1 s)) o [] ≡ option_map_or (λ x. x.0 ∷ values n (drop x.1 s)) o []
values_by m n s None same e h k = refl
values_by m n s (Some x) same e h k =
    let b = character_at-bounds s x e in
    let l = length-drop x.1 s in
    ap (λ ys. x.0 ∷ ys) (same (drop x.1 s) (omega arith) (omega arith))

pub values-enough : (m n : ℕ) (s : List ℕ) → length s ≤ m → length s ≤ n → values m s ≡ values n s
unfolding values character_at
values-enough zero zero s h k = refl
values-enough zero (suc n) [] h k = refl
values-enough zero (suc n) (b ∷ s) h k = absurd (omega arith)
values-enough (suc m) zero [] h k = refl
values-enough (suc m) zero (b ∷ s) h k = absurd (omega arith)
values-enough (suc m) (suc n) s h k = values_by m n s (character_at s) (values-enough m n) refl h k

pub values-none : (n : ℕ) (s : List ℕ) → character_at s ≡ None → values n s ≡ []
unfolding values
values-none zero s e = refl
values-none (suc n) s e = ap (λ o. option_map_or (λ x. x.0 ∷ values n (drop x.1 s)) o []) e

-- all that the characters of a text stand for
unfoldable pub all_values : List ℕ → List ℕ
all_values s = values (length s) s

values_more : (n : ℕ) (s : List ℕ) (x : ℕ × ℕ) → length s ≤ suc n → character_at s ≡ Some x → values (suc n) s ≡ x.0 ∷ all_values (drop x.1 s)
unfolding values all_values
values_more n s x h e =
    let b = character_at-bounds s x e in
    let l = length-drop x.1 s in
    ap (λ o. option_map_or (λ y. y.0 ∷ values n (drop y.1 s)) o []) e ∙ ap (λ ys. x.0 ∷ ys) (values-enough n (length (drop x.1 s)) (drop x.1 s) (omega arith) (omega arith))

pub all_values-some : (s : List ℕ) (x : ℕ × ℕ) → character_at s ≡ Some x → all_values s ≡ x.0 ∷ all_values (drop x.1 s)
unfolding all_values
all_values-some s x e =
    let b = character_at-bounds s x e in
    let l : length s ≤ suc (length s) = omega arith in
    values-enough (length s) (suc (length s)) s (omega arith) l ∙ values_more (length s) s x l e

pub all_values-none : (s : List ℕ) → character_at s ≡ None → all_values s ≡ []
unfolding all_values
all_values-none s e = values-none (length s) s e

-- one more byte is written
pub written_more : (out out' all s : List ℕ) (x : ℕ × ℕ) → character_at s ≡ Some x → out' ≡ out ++ x.0 ∷ [] → out ++ all_values s ≡ all → out' ++ all_values (drop x.1 s) ≡ all
written_more out out' all s x e o h =
    ap (λ ys. ys ++ all_values (drop x.1 s)) o ∙ append_assoc out (x.0 ∷ []) (all_values (drop x.1 s)) ∙ ap (λ ys. out ++ ys) (sym (all_values-some s x e)) ∙ h

pub written_all : (out all s : List ℕ) → character_at s ≡ None → out ++ all_values s ≡ all → out ≡ all
written_all out all s e h = sym (append-nil out) ∙ ap (λ ys. out ++ ys) (sym (all_values-none s e)) ∙ h

pub string_value-rest : (s : List ℕ) → all_values (drop 1 s) ≡ string_value s
unfolding string_value all_values
string_value-rest [] = refl
string_value-rest (b ∷ s) = values-enough (length s) (suc (length s)) s (omega arith) (omega arith)

pub character_at-none_end : (s : List ℕ) → s ≡ [] → character_at s ≡ None
unfolding character_at
character_at-none_end [] e = refl
character_at-none_end (b ∷ s) e = absurd cc
