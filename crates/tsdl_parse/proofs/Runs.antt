-- The run of a type's words.
use Rattle.std.proofs.Common.{◌≡◌, ℕ, suc, ◌+◌, ◌<◌, ◌≤◌, Bool, true, false, cond, List, [], ◌∷◌, ◌++◌, length, take, drop, get_or, Ok, refl, sym, ap, ◌∙◌}
use Rattle.std.specs.Prelude.{not}
use Rattle.std.proofs.lemmas.Bool.{not-true, not-false}
use Rattle.std.proofs.lemmas.List.{at_drop_more, at_drop_all, take_more, append-nil}
use Rattle.tsdl_text.specs.declared.token.Token.{Token}
use Rattle.tsdl_text.specs.declared.token.Symbol.TheVariants as s
use Rattle.tsdl_text.specs.Symbols.{is_typeword}
use Rattle.tsdl_grammar.specs.Terminals.{is}
use Rattle.tsdl_grammar.specs.Spelling.{run}
use Rattle.tsdl_grammar.specs.Reading.{words_of, some_words}

-- the token at a place is of that kind, as its own value says
same_test : (p : Token → Bool) (ts : List Token) (i : ℕ) (t : Token) (b : Bool) → t ≡ get_or ts i t → p t ≡ b → p (get_or ts i t) ≡ b
same_test p ts i t b e o = ap p (sym e) ∙ o

pub run_more : (ts : List Token) (i : ℕ) (t : Token) → i < length ts → t ≡ get_or ts i t → is_typeword t.kind ≡ true → run (drop i ts) ≡ suc (run (drop (i + 1) ts))
unfolding run
run_more ts i t lt e o = at_drop_more run ts i t lt ∙ ap (λ b. cond b (suc (run (drop (i + 1) ts))) 0) (same_test (λ (u : Token). is_typeword u.kind) ts i t true e o)

pub run_stop : (ts : List Token) (i : ℕ) (t : Token) → i < length ts → t ≡ get_or ts i t → is_typeword t.kind ≡ false → run (drop i ts) ≡ 0
unfolding run
run_stop ts i t lt e o = at_drop_more run ts i t lt ∙ ap (λ b. cond b (suc (run (drop (i + 1) ts))) 0) (same_test (λ (u : Token). is_typeword u.kind) ts i t false e o)

pub run_end : (ts : List Token) (i : ℕ) → length ts ≤ i → run (drop i ts) ≡ 0
unfolding run
run_end ts i le = at_drop_all run ts i le

some_if : Bool → List ℕ → List (List ℕ)
some_if true w = []
some_if false w = w ∷ []

words_of-push : (ts : List Token) (t : Token) (b : Bool) → is s.Const t ≡ b → words_of (ts ++ t ∷ []) ≡ words_of ts ++ some_if b t.text.now
unfolding words_of some_if
words_of-push [] t true e = rw e refl
words_of-push [] t false e = rw e refl
words_of-push (u ∷ ts) t b e = simp (words_of-push ts t b e) (other (is s.Const u) u.text.now (words_of ts) (some_if b t.text.now))
  where
    other : (c : Bool) (w : List ℕ) (xs ys : List (List ℕ)) → cond c (xs ++ ys) (w ∷ (xs ++ ys)) ≡ cond c xs (w ∷ xs) ++ ys
    other true w xs ys = refl
    other false w xs ys = refl

pub words_of_keep : (ts : List Token) (i : ℕ) (t : Token) → i < length ts → t ≡ get_or ts i t → not (is s.Const t) ≡ true → words_of (take (i + 1) ts) ≡ words_of (take i ts) ++ t.text.now ∷ []
unfolding some_if
words_of_keep ts i t lt e o =
    ap words_of (take_more ts i t lt) ∙ words_of-push (take i ts) (get_or ts i t) false (same_test (λ (u : Token). is s.Const u) ts i t false e (not-true (is s.Const t) o))
    ∙ ap (λ (u : Token). words_of (take i ts) ++ u.text.now ∷ []) (sym e)

pub words_of_skip : (ts : List Token) (i : ℕ) (t : Token) → i < length ts → t ≡ get_or ts i t → not (is s.Const t) ≡ false → words_of (take (i + 1) ts) ≡ words_of (take i ts)
unfolding some_if
words_of_skip ts i t lt e o =
    ap words_of (take_more ts i t lt) ∙ words_of-push (take i ts) (get_or ts i t) true (same_test (λ (u : Token). is s.Const u) ts i t true e (not-false (is s.Const t) o)) ∙ append-nil (words_of (take i ts))

pub some_words_some : (ws : List (List ℕ)) (ts : List Token) → (ws ≡ [] → ⊥) → some_words ws ts ≡ Ok (record { words = ws }, ts)
some_words_some [] ts h = absurd (h refl)
some_words_some (w ∷ ws) ts h = refl
