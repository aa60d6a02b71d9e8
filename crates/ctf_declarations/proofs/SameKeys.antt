-- Keys are the same where names are.
use Rattle.std.proofs.Common.{◌≡◌, ℕ, suc, ◌+◌, List, [], ◌∷◌, ◌++◌, refl, ap, sym, ◌∙◌, add-one}
use Rattle.std.specs.Prelude.{Bool, true, false, ◌&&◌, nat_eq, flat_map}
use lib.Dec.{compare_is_eq}
use Prim.Native.Nat.compare
use lib.Pointwise.{pointwise}
use Rattle.ctf_meaning.specs.Name.{Word, Words, Name, Plain, Struct, Variant, Enum, same_word, same_words, same_name}
use Rattle.ctf_declarations.specs.Keys.{word_key, key_of}

and_assoc : (a b c : Bool) → (a && (b && c)) ≡ ((a && b) && c)
and_assoc true b c = refl
and_assoc false b c = refl

eq_suc : (a b : ℕ) → nat_eq (a + 1) (b + 1) ≡ nat_eq a b
eq_suc a b = ap (λ n. nat_eq n (b + 1)) (add-one a) ∙ ap (nat_eq (suc a)) (add-one b) ∙ ap compare_is_eq (compare.suc-suc a b)

eq_low : (b : ℕ) → nat_eq 0 (b + 1) ≡ false
eq_low b = ap (nat_eq 0) (add-one b) ∙ ap compare_is_eq (compare.zero-suc b)

eq_high : (a : ℕ) → nat_eq (a + 1) 0 ≡ false
eq_high a = ap (λ n. nat_eq n 0) (add-one a) ∙ ap compare_is_eq (compare.suc-zero a)

word_more : (a b : Word) (x y : List ℕ) → pointwise nat_eq (word_key a ++ x) (word_key b ++ y) ≡ (same_word a b && pointwise nat_eq x y)
word_more [] [] x y = refl
word_more [] (b ∷ bs) x y = ap (λ r. r && pointwise nat_eq x (word_key bs ++ y)) (eq_low b)
word_more (a ∷ front) [] x y = ap (λ r. r && pointwise nat_eq (word_key front ++ x) y) (eq_high a)
word_more (a ∷ front) (b ∷ bs) x y =
    ap (λ r. r && pointwise nat_eq (word_key front ++ x) (word_key bs ++ y)) (eq_suc a b)
    ∙ ap (λ r. nat_eq a b && r) (word_more front bs x y)
    ∙ and_assoc (nat_eq a b) (same_word front bs) (pointwise nat_eq x y)

no_words : (b : Word) (y : List ℕ) → pointwise nat_eq [] (word_key b ++ y) ≡ false
no_words [] y = refl
no_words (b ∷ bs) y = refl

words_none : (a : Word) (x : List ℕ) → pointwise nat_eq (word_key a ++ x) [] ≡ false
words_none [] x = refl
words_none (a ∷ front) x = refl

words_more : (xs ys : Words) → pointwise nat_eq (flat_map word_key xs) (flat_map word_key ys) ≡ same_words xs ys
words_more [] [] = refl
words_more [] (y ∷ ys) = no_words y (flat_map word_key ys)
words_more (x ∷ xs) [] = words_none x (flat_map word_key xs)
words_more (x ∷ xs) (y ∷ ys) = word_more x y (flat_map word_key xs) (flat_map word_key ys) ∙ ap (λ r. same_word x y && r) (words_more xs ys)

and_true : (a : Bool) → (a && true) ≡ a
and_true true = refl
and_true false = refl

append_none : (xs : List ℕ) → xs ++ [] ≡ xs
append_none [] = refl
append_none (x ∷ xs) = ap (λ l. x ∷ l) (append_none xs)

word_alone : (a b : Word) → pointwise nat_eq (word_key a) (word_key b) ≡ same_word a b
word_alone a b =
    ap (λ l. pointwise nat_eq l (word_key b)) (sym (append_none (word_key a)))
    ∙ ap (pointwise nat_eq (word_key a ++ [])) (sym (append_none (word_key b)))
    ∙ word_more a b [] [] ∙ and_true (same_word a b)

pub same_keys : (a b : Name) → pointwise nat_eq (key_of a) (key_of b) ≡ same_name a b
same_keys (Plain a) (Plain b) = words_more a b
same_keys (Plain a) (Struct b) = refl
same_keys (Plain a) (Variant b) = refl
same_keys (Plain a) (Enum b) = refl
same_keys (Struct a) (Plain b) = refl
same_keys (Struct a) (Struct b) = word_alone a b
same_keys (Struct a) (Variant b) = refl
same_keys (Struct a) (Enum b) = refl
same_keys (Variant a) (Plain b) = refl
same_keys (Variant a) (Struct b) = refl
same_keys (Variant a) (Variant b) = word_alone a b
same_keys (Variant a) (Enum b) = refl
same_keys (Enum a) (Plain b) = refl
same_keys (Enum a) (Struct b) = refl
same_keys (Enum a) (Variant b) = refl
same_keys (Enum a) (Enum b) = word_alone a b
