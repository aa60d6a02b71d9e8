-- What the loops of the reader compute, turn by turn.
use Rattle.std.proofs.Common.{◌≡◌, ℕ, zero, suc, ◌+◌, ◌<◌, ◌≤◌, Bool, true, false, List, [], ◌∷◌, length, take, drop, get_or, Option, Some, None, refl, sym, ap, ◌∙◌, arith, eqb}
use Rattle.std.specs.Prelude.{codes, option_and_then}
use Rattle.std.specs.Option.{option_map}
use Rattle.std.specs.Str.{bytes_eq}
use Rattle.std.proofs.lemmas.List.{drop_more, drop_all, drop-drop, length-drop}
use Rattle.ctf_list.specs.Prefix.{begins}
use Rattle.tsdl_text.specs.Strings.{character_at}
use Rattle.tsdl_text.specs.Scanning.{block_len, closing_len, string_len, keyword_of, keywords_with}
use Rattle.tsdl_text.proofs.StringLemmas.{character_at-bounds}

pub add_later : (i k m : ℕ) (o : Option ℕ) → i + k ≡ m → option_map (λ n. i + n) (option_map (λ n. k + n) o) ≡ option_map (λ n. m + n) o
add_later i k m None e = refl
add_later i k m (Some n) e = ap Some (omega arith)

pub add_none : (o : Option ℕ) → option_map (λ n. 0 + n) o ≡ o
add_none None = refl
add_none (Some n) = ap Some (omega arith)

-- ---- the first `*/`

block_here : (s : List ℕ) → bytes_eq (codes "*/") (take 2 s) ≡ true → block_len s ≡ Some 2
unfolding block_len
block_here [] e = absurd cc
block_here (a ∷ s) e = rw e refl

block_later : (s : List ℕ) → 0 < length s → bytes_eq (codes "*/") (take 2 s) ≡ false → block_len s ≡ option_map (λ n. 1 + n) (block_len (drop 1 s))
unfolding block_len
block_later [] h e = absurd (omega arith)
block_later (a ∷ s) h e = rw e refl

pub block_none : (s : List ℕ) → s ≡ [] → block_len s ≡ None
unfolding block_len
block_none [] e = refl
block_none (a ∷ s) e = absurd cc

pub block_found : (s : List ℕ) (i : ℕ) → bytes_eq (codes "*/") (take 2 (drop i s)) ≡ true → block_len s ≡ option_map (λ n. i + n) (block_len (drop i s)) → Some (i + 2) ≡ block_len s
block_found s i e h = sym (h ∙ ap (option_map (λ n. i + n)) (block_here (drop i s) e))

pub block_more : (s : List ℕ) (i : ℕ) → i < length s → bytes_eq (codes "*/") (take 2 (drop i s)) ≡ false → block_len s ≡ option_map (λ n. i + n) (block_len (drop i s)) → block_len s ≡ option_map (λ n. (i + 1) + n) (block_len (drop (i + 1) s))
block_more s i l e h =
    let k = length-drop i s in
    h ∙ ap (option_map (λ n. i + n)) (block_later (drop i s) (omega arith) e) ∙ add_later i 1 (i + 1) (block_len (drop 1 (drop i s))) refl ∙ ap (λ t. option_map (λ n. (i + 1) + n) (block_len t)) (drop-drop 1 i s)

pub block_end : (s : List ℕ) (i : ℕ) → length s ≤ i → block_len s ≡ option_map (λ n. i + n) (block_len (drop i s)) → None ≡ block_len s
block_end s i l h = sym (h ∙ ap (option_map (λ n. i + n)) (block_none (drop i s) (drop_all i s l)))

-- ---- the closing quote

and_then_by : (s : List ℕ) (o : Option (ℕ × ℕ)) (f g : ℕ × ℕ → Option ℕ) → ((x : ℕ × ℕ) → o ≡ Some x → f x ≡ g x) → option_and_then f o ≡ option_and_then g o
and_then_by s None f g same = refl
and_then_by s (Some x) f g same = same x refl

closing_here : (n : ℕ) (s : List ℕ) → 0 < n → begins (λ b. eqb b 34) s ≡ true → closing_len n s ≡ Some 1
unfolding closing_len
closing_here zero s h e = absurd (omega arith)
closing_here (suc n) s h e = rw e refl

closing_later : (n : ℕ) (s : List ℕ) → begins (λ b. eqb b 34) s ≡ false → closing_len (suc n) s ≡ option_and_then (λ x. option_map (λ k. x.1 + k) (closing_len n (drop x.1 s))) (character_at s)
unfolding closing_len
closing_later n s e = rw e refl

pub closing-none : (n : ℕ) (s : List ℕ) → s ≡ [] → closing_len n s ≡ None
unfolding closing_len character_at
closing-none zero s e = refl
closing-none (suc n) [] e = refl
closing-none (suc n) (b ∷ s) e = absurd cc

by_quote : (m n : ℕ) (s : List ℕ) (b : Bool) → begins (λ c. eqb c 34) s ≡ b → ((t : List ℕ) → length t ≤ m → length t ≤ n → closing_len m t ≡ closing_len n t) → length s ≤ suc m → length s ≤ suc n → closing_len (suc m) s ≡ closing_len (suc n) s
by_quote m n s true e same h k = closing_here (suc m) s (omega arith) e ∙ sym (closing_here (suc n) s (omega arith) e)
by_quote m n s false e same h k =
    closing_later m s e ∙
    and_then_by s (character_at s) _ _ (λ x f. let b = character_at-bounds s x f in let l = length-drop x.1 s in ap (option_map (λ j. x.1 + j)) (same (drop x.1 s) (omega arith) (omega arith)))
    ∙ sym (closing_later n s e)

pub closing-enough : (m n : ℕ) (s : List ℕ) → length s ≤ m → length s ≤ n → closing_len m s ≡ closing_len n s
closing-enough zero zero s h k = refl
closing-enough zero (suc n) [] h k = closing-none zero [] refl ∙ sym (closing-none (suc n) [] refl)
closing-enough zero (suc n) (b ∷ s) h k = absurd (omega arith)
closing-enough (suc m) zero [] h k = closing-none (suc m) [] refl ∙ sym (closing-none zero [] refl)
closing-enough (suc m) zero (b ∷ s) h k = absurd (omega arith)
closing-enough (suc m) (suc n) s h k = by_quote m n s (begins (λ c. eqb c 34) s) refl (closing-enough m n) h k

pub string_none : (s : List ℕ) → s ≡ [] → string_len s ≡ None
unfolding string_len
string_none s e = closing-none (length s) s e

pub string_here : (s : List ℕ) → begins (λ b. eqb b 34) s ≡ true → string_len s ≡ Some 1
unfolding string_len
string_here [] e = absurd cc
string_here (a ∷ s) e = closing_here (suc (length s)) (a ∷ s) (omega arith) e

pub string_later : (s : List ℕ) (x : ℕ × ℕ) → begins (λ b. eqb b 34) s ≡ false → character_at s ≡ Some x → string_len s ≡ option_map (λ k. x.1 + k) (string_len (drop x.1 s))
unfolding string_len
string_later s x e c =
    let b = character_at-bounds s x c in
    let l = length-drop x.1 s in
    closing-enough (length s) (suc (length s)) s (omega arith) (omega arith) ∙ closing_later (length s) s e
    ∙ ap (option_and_then (λ y. option_map (λ k. y.1 + k) (closing_len (length s) (drop y.1 s)))) c
    ∙ ap (option_map (λ k. x.1 + k)) (closing-enough (length s) (length (drop x.1 s)) (drop x.1 s) (omega arith) (omega arith))

pub string_stuck : (s : List ℕ) → begins (λ b. eqb b 34) s ≡ false → character_at s ≡ None → string_len s ≡ None
unfolding string_len
string_stuck s e c =
    closing-enough (length s) (suc (length s)) s (omega arith) (omega arith) ∙ closing_later (length s) s e
    ∙ ap (option_and_then (λ y. option_map (λ k. y.1 + k) (closing_len (length s) (drop y.1 s)))) c

-- the byte at a place is the first after it
begins_at : (p : ℕ → Bool) (s : List ℕ) (i : ℕ) → i < length s → begins p (drop i s) ≡ p (get_or s i 0)
begins_at p s i h = ap (begins p) (drop_more s i 0 h)

pub string_found : (s : List ℕ) (i : ℕ) → i < length s → eqb (get_or s i 0) 34 ≡ true → string_len s ≡ option_map (λ n. i + n) (string_len (drop i s)) → Some (i + 1) ≡ string_len s
string_found s i l e h = sym (h ∙ ap (option_map (λ n. i + n)) (string_here (drop i s) (begins_at (λ b. eqb b 34) s i l ∙ e)))

pub string_more : (s : List ℕ) (i : ℕ) (x : ℕ × ℕ) → i < length s → eqb (get_or s i 0) 34 ≡ false → character_at (drop i s) ≡ Some x → string_len s ≡ option_map (λ n. i + n) (string_len (drop i s)) → string_len s ≡ option_map (λ n. (i + x.1) + n) (string_len (drop (i + x.1) s))
string_more s i x l e c h =
    h ∙ ap (option_map (λ n. i + n)) (string_later (drop i s) x (begins_at (λ b. eqb b 34) s i l ∙ e) c) ∙ add_later i x.1 (i + x.1) (string_len (drop x.1 (drop i s))) refl ∙ ap (λ t. option_map (λ n. (i + x.1) + n) (string_len t)) (drop-drop x.1 i s)

pub string_bad : (s : List ℕ) (i : ℕ) → i < length s → eqb (get_or s i 0) 34 ≡ false → character_at (drop i s) ≡ None → string_len s ≡ option_map (λ n. i + n) (string_len (drop i s)) → None ≡ string_len s
string_bad s i l e c h = sym (h ∙ ap (option_map (λ n. i + n)) (string_stuck (drop i s) (begins_at (λ b. eqb b 34) s i l ∙ e) c))

pub string_end : (s : List ℕ) (i : ℕ) → length s ≤ i → string_len s ≡ option_map (λ n. i + n) (string_len (drop i s)) → None ≡ string_len s
string_end s i l h = sym (h ∙ ap (option_map (λ n. i + n)) (string_none (drop i s) (drop_all i s l)))

-- ---- words

pub keyword_of-empty : (word : List ℕ) → length word < 1 → None ≡ keyword_of word
unfolding keyword_of keywords_with
keyword_of-empty [] h = refl
keyword_of-empty (b ∷ word) h = absurd (omega arith)
