-- A reading comes to what is spelled: its steps put together.
use Rattle.std.proofs.Common.{◌≡◌, ℕ, zero, suc, ◌≤◌, ◌⊎◌, inl, inr, Bool, true, false, List, [], ◌∷◌, ◌++◌, length, Some, None, Result, Ok, Err, refl, sym, ap, subst, append_assoc, arith}
use Rattle.std.specs.Prelude.{◌==◌}
use Rattle.std.proofs.lemmas.Bool.Decides.{nat_tests}
use Rattle.std.proofs.lemmas.List.{length-append}
use Rattle.tsdl_text.specs.declared.token.Symbol.{Symbol}
use Rattle.tsdl_text.specs.declared.token.Symbol.TheVariants as s
use Rattle.tsdl_text.specs.declared.token.Token.{Token}
use Rattle.tsdl_grammar.specs.Terminals.{Is}
use Rattle.tsdl_grammar.specs.Repeats.{Many, Listed}
use Rattle.tsdl_grammar.specs.Steps.{Refusal, deep, ◌>>=◌, Parse, expect, open_at, loop, all, optional}

-- the reading comes to this, unless braces nest too deep
pub record Comes {A : Type 0} (r : Result A Refusal) (x : A) : Type 0 where
  pub comes : (r ≡ Ok x) ⊎ (r ≡ Err deep)

pub comes_is : {A : Type 0} {r : Result A Refusal} {x : A} → r ≡ Ok x → Comes r x
comes_is e = record { comes = inl e }

pub comes_deep : {A : Type 0} {r : Result A Refusal} {x : A} → r ≡ Err deep → Comes r x
comes_deep e = record { comes = inr e }

-- a step, and then the rest
pub comes_then : {A B : Type 0} {r : Result A Refusal} (f : A → Result B Refusal) {x : A} {y : B} → Comes r x → Comes (f x) y → Comes (r >>= f) y
comes_then {r = r} f {x = x} {y = y} h g = elim h.comes [ inl e ↦ subst (λ z. Comes (z >>= f) y) (sym e) g | inr e ↦ comes_deep (ap (λ z. z >>= f) e) ]

-- a first step that is refused for its depth
pub deep_then : {A B : Type 0} {r : Result A Refusal} (f : A → Result B Refusal) {y : B} → r ≡ Err deep → Comes (r >>= f) y
deep_then f e = comes_deep (ap (λ z. z >>= f) e)

-- another reading that is the same
pub comes_as : {A : Type 0} {r q : Result A Refusal} {x : A} → r ≡ q → Comes q x → Comes r x
comes_as {x = x} e h = subst (λ z. Comes z x) (sym e) h

pub expect_is : (a : Symbol) (t : Token) (ts : List Token) → Is a t → expect a (t ∷ ts) ≡ Ok ts
unfolding expect
expect_is a t ts i = rw i.holds refl

pub comes_token : {B : Type 0} {a : Symbol} {t : Token} {ts : List Token} (f : List Token → Result B Refusal) {y : B} → Is a t → Comes (f ts) y → Comes (expect a (t ∷ ts) >>= f) y
comes_token {a = a} {t = t} {ts = ts} f i h = comes_then f (comes_is (expect_is a t ts i)) h

module _ {A : Type 0} (go : List Token → Bool) (item : Parse A) where
  pub comes_more : (n : ℕ) {ts rest post : List Token} {x : A} {xs : List A} → go ts ≡ true → Comes (item ts) (x, rest) → Comes (loop go item n rest) (xs, post) → Comes (loop go item (suc n) ts) (x ∷ xs, post)
  unfolding loop
  comes_more n g h l = rw g (comes_then _ h (comes_then _ l (comes_is refl)))

  pub comes_end : (n : ℕ) (ts : List Token) → go ts ≡ false → Comes (loop go item n ts) ([], ts)
  unfolding loop
  comes_end zero ts g = rw g (comes_is refl)
  comes_end (suc n) ts g = rw g (comes_is refl)

  pub comes_some : {ts rest : List Token} {x : A} → go ts ≡ true → Comes (item ts) (x, rest) → Comes (optional go item ts) (Some x, rest)
  unfolding optional
  comes_some g h = rw g (comes_then _ h (comes_is refl))

  pub comes_none : {ts : List Token} → go ts ≡ false → Comes (optional go item ts) (None, ts)
  unfolding optional
  comes_none g = rw g (comes_is refl)

-- ---- braces

pub open_deep : {o : Token} (ts : List Token) → Is s.OpenBrace o → open_at 0 (o ∷ ts) ≡ Err deep
unfolding open_at
open_deep {o} ts i = rw (expect_is s.OpenBrace o ts i) refl

pub open_is : {o : Token} (d : ℕ) (ts : List Token) → Is s.OpenBrace o → open_at (suc d) (o ∷ ts) ≡ Ok ts
unfolding open_at
open_is {o} d ts i = let e : (suc d == 0) ≡ false = grind (arith, nat_tests) in rw (expect_is s.OpenBrace o ts i) (rw e refl)

-- an opening brace, and what is after it
pub comes_open : {B : Type 0} (d : ℕ) {o : Token} {ts : List Token} (f : List Token → Result B Refusal) {y : B} → Is s.OpenBrace o → Comes (f ts) y → Comes (open_at d (o ∷ ts) >>= f) y
comes_open zero f i h = deep_then f (open_deep _ i)
comes_open (suc d) f i h = comes_then f (comes_is (open_is d _ i)) h

-- ---- lists

pub no_turn : {A : Type 0} (ts us : List A) → 1 ≤ length ts → length (ts ++ us) ≤ 0 → ⊥
no_turn ts us h le = omega (arith, length-append ts us)

-- what is left of a list's length after a first part
pub shorter : {A : Type 0} (ts us : List A) (n : ℕ) → 1 ≤ length ts → length (ts ++ us) ≤ suc n → length us ≤ n
shorter ts us n h le = omega (arith, length-append ts us)

pub not_empty : (go : List Token → Bool) (ts : List Token) → go [] ≡ false → go (ts ++ []) ≡ true → 1 ≤ length ts
not_empty go [] z e = absurd cc
not_empty go (t ∷ ts) z e = omega arith

-- items that are there any number of times
module _ {A : Type 0} {P : A → List Token → Type 0} (go : List Token → Bool) (item : Parse A) (stops : go [] ≡ false) (turns : (x : A) (ts : List Token) → P x ts → (post : List Token) → go (ts ++ post) ≡ true)
    (reads : (x : A) (ts : List Token) → P x ts → (post : List Token) → Comes (item (ts ++ post)) (x, post)) where
  pub many_come : {xs : List A} {ts : List Token} → Many P xs ts → (post : List Token) → go post ≡ false → (n : ℕ) → length ts ≤ n → Comes (loop go item n (ts ++ post)) (xs, post)
  many_come Many.none post z n le = comes_end go item n post z
  many_come (Many.more {ts = ts} {us = us} p m) post z zero le = absurd (no_turn ts us (not_empty go ts stops (turns _ ts p [])) le)
  many_come (Many.more {ts = ts} {us = us} p m) post z (suc n) le =
      rw append_assoc (comes_more go item n (turns _ ts p (us ++ post)) (reads _ ts p (us ++ post)) (many_come m post z n (shorter ts us n (not_empty go ts stops (turns _ ts p [])) le)))

after_first : (ts us : List Token) (c : Token) (n : ℕ) → suc (length (ts ++ (c ∷ us))) ≤ suc n → suc (length us) ≤ n
after_first ts us c n le = omega (arith, length-append ts (c ∷ us))

enough : (us post : List Token) → suc (length us) ≤ suc (length (us ++ post))
enough us post = omega (arith, length-append us post)

-- items with commas between them, where what is after an item has a property
module _ {A : Type 0} {P : A → List Token → Type 0} (go : List Token → Bool) (item next : Parse A) (After : List Token → Type 0)
    (turns : (x : A) (ts : List Token) → P x ts → (c : Token) (post : List Token) → Is s.Comma c → go (c ∷ (ts ++ post)) ≡ true)
    (commas : (c : Token) (post : List Token) → Is s.Comma c → After (c ∷ post))
    (reads : (x : A) (ts : List Token) → P x ts → (post : List Token) → After post → Comes (item (ts ++ post)) (x, post))
    (steps : (c : Token) (ts : List Token) (x : A × List Token) → Is s.Comma c → Comes (item ts) x → Comes (next (c ∷ ts)) x) where
  next_come : {xs : List A} {ts : List Token} → Listed P xs ts → (post : List Token) → After post → go post ≡ false → (n : ℕ) → suc (length ts) ≤ n → (c : Token) → Is s.Comma c → Comes (loop go next n (c ∷ (ts ++ post))) (xs, post)
  next_come (Listed.last p) post b z zero le c i = let never : ⊥ = omega arith in absurd never
  next_come (Listed.last p) post b z (suc n) le c i = comes_more go next n (turns _ _ p c post i) (steps c _ _ i (reads _ _ p post b)) (comes_end go next n post z)
  next_come (Listed.more p j l) post b z zero le c i = let never : ⊥ = omega arith in absurd never
  next_come (Listed.more {ts = ts} {us = us} {c = m} p j l) post b z (suc n) le c i =
      rw append_assoc (comes_more go next n (turns _ _ p c (m ∷ (us ++ post)) i) (steps c _ _ i (reads _ _ p (m ∷ (us ++ post)) (commas m (us ++ post) j))) (next_come l post b z n (after_first ts us m n le) m j))

  pub listed_come : {B : Type 0} {xs : List A} {ts : List Token} → Listed P xs ts → (post : List Token) → After post → go post ≡ false → (f : List A × List Token → Result B Refusal) {y : B} → Comes (f (xs, post)) y
      → Comes (item (ts ++ post) >>= λ first. all go next first.1 >>= λ more. f (first.0 ∷ more.0, more.1)) y
  listed_come (Listed.last p) post b z f h = comes_then _ (reads _ _ p post b) (comes_then _ (comes_end go next _ post z) h)
  listed_come (Listed.more {us = us} {c = m} p j l) post b z f h =
      rw append_assoc (comes_then _ (reads _ _ p (m ∷ (us ++ post)) (commas m (us ++ post) j)) (comes_then _ (next_come l post b z _ (enough us post) m j) h))
