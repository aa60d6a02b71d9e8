-- A loop of the code, a turn at a time.
use Rattle.std.proofs.Common.{◌≡◌, ℕ, zero, suc, ◌<◌, ◌≤◌, Bool, true, false, List, [], ◌∷◌, ◌++◌, length, Result, Ok, Err, refl, sym, ap, subst, ◌∙◌, append_assoc, arith}
use Rattle.std.proofs.lemmas.List.{append-nil}
use Rattle.tsdl_text.specs.declared.token.Token.{Token}
use Rattle.tsdl_parse.specs.declared.failure.Failure.{Failure}
use Rattle.tsdl_parse.specs.declared.failure.Failure.TheVariants as failure
use Rattle.tsdl_grammar.specs.Steps.{Refusal, bad, deep, ◌>>=◌, Parse, loop, all}
use Rattle.tsdl_parse.specs.Gives.{Fails}
use Rattle.tsdl_parse.specs.Front.{with_front}

pub record Going {A : Type 0} (go : List Token → Bool) (item : Parse A) (front_0 : List A) (ts_0 : List Token) (front : List A) (ts : List Token) : Type 0 where
  pub turns : ℕ
  pub enough : length ts ≤ turns
  pub within : length ts ≤ length ts_0
  pub so_far : with_front front (loop go item turns ts) ≡ with_front front_0 (all go item ts_0)

pub starts : {A : Type 0} (go : List Token → Bool) (item : Parse A) (front : List A) (ts : List Token) → Going go item front ts front ts
starts go item front ts = record { turns = length ts; enough = omega arith; within = omega arith; so_far = refl }

module _ {A : Type 0} (go : List Token → Bool) (item : Parse A) where
  regroup : (front : List A) (x : A) (read : Result (List A × List Token) Refusal) → with_front front (read >>= λ xs. Ok (x ∷ xs.0, xs.1)) ≡ with_front (front ++ x ∷ []) read
  regroup front x (Ok y) = ap (λ (xs : List A). Ok (xs, y.1)) (simp append_assoc)
  regroup front x (Err f) = refl

  turn : (n : ℕ) (ts : List Token) (x : A) (after : List Token) → length ts ≤ n → go ts ≡ true → item ts ≡ Ok (x, after) → length after < length ts
      → (m : ℕ) × (length after ≤ m) × (loop go item n ts ≡ (loop go item m after >>= λ xs. Ok (x ∷ xs.0, xs.1)))
  unfolding loop
  turn zero ts x after le g e lt = let never : ⊥ = omega arith in absurd never
  turn (suc n) ts x after le g e lt = (n, omega arith, rw (g, e) refl)

  stop : go [] ≡ false → (n : ℕ) (ts : List Token) (r : Refusal) → length ts ≤ n → go ts ≡ true → item ts ≡ Err r → loop go item n ts ≡ Err r
  unfolding loop
  stop z zero [] r le g e = absurd cc
  stop z zero (t ∷ ts) r le g e = let never : ⊥ = omega arith in absurd never
  stop z (suc n) ts r le g e = rw (g, e) refl

  finish : (n : ℕ) (ts : List Token) → go ts ≡ false → loop go item n ts ≡ Ok ([], ts)
  unfolding loop
  finish zero ts g = rw g refl
  finish (suc n) ts g = rw g refl

  module _ (front_0 : List A) (ts_0 : List Token) (front : List A) (ts : List Token) (h : Going go item front_0 ts_0 front ts) where
    pub goes_on : (x : A) (after : List Token) → go ts ≡ true → item ts ≡ Ok (x, after) → length after < length ts → Going go item front_0 ts_0 (front ++ x ∷ []) after
    goes_on x after g e lt =
        let t = turn h.turns ts x after h.enough g e lt in
        record { turns = t.0; enough = t.1; within = omega (arith, h.within); so_far = sym (ap (with_front front) t.2 ∙ regroup front x (loop go item t.0 after)) ∙ h.so_far }

    pub ends : go [] ≡ false → (f : Failure) → go ts ≡ true → Fails f (item ts) → Fails f (with_front front_0 (all go item ts_0))
    ends z failure.NoMemory g e = tt
    ends z (failure.Syntax n) g e = sym h.so_far ∙ ap (with_front front) (stop z h.turns ts bad h.enough g e)
    ends z failure.Deep g e = sym h.so_far ∙ ap (with_front front) (stop z h.turns ts deep h.enough g e)

    pub is_done : go ts ≡ false → with_front front_0 (all go item ts_0) ≡ Ok (front, ts)
    is_done g = sym h.so_far ∙ ap (with_front front) (finish h.turns ts g) ∙ ap (λ (xs : List A). Ok (xs, ts)) (append-nil front)

pub front_nil : {A : Type 0} (read : Result (List A × List Token) Refusal) → with_front [] read ≡ read
front_nil (Ok x) = refl
front_nil (Err e) = refl

module _ {A : Type 0} (go : List Token → Bool) (item : Parse A) (ts_0 : List Token) (front : List A) (ts : List Token) (h : Going go item [] ts_0 front ts) where
  pub ends_nil : go [] ≡ false → (f : Failure) → go ts ≡ true → Fails f (item ts) → Fails f (all go item ts_0)
  ends_nil z f g e = subst (Fails f) (front_nil (all go item ts_0)) (ends go item [] ts_0 front ts h z f g e)

  pub is_done_nil : go ts ≡ false → all go item ts_0 ≡ Ok (front, ts)
  is_done_nil g = sym (front_nil (all go item ts_0)) ∙ is_done go item [] ts_0 front ts h g
