-- What a reading took from the front of the tokens, and the room for braces after it.
use Rattle.std.proofs.Common.{◌≡◌, ℕ, zero, suc, ◌⊎◌, inl, inr, Bool, true, false, cond, List, [], ◌∷◌, ◌++◌, Option, Some, None, Result, Ok, Err, refl, sym, ap, subst, ◌∙◌, append_assoc, arith}
use Rattle.std.proofs.lemmas.Bool.{cases_Bool}
use Rattle.std.specs.Prelude.{◌==◌}
use Rattle.std.proofs.lemmas.Bool.Decides.{nat_tests}
use Rattle.std.proofs.lemmas.List.{append-nil}
use Rattle.tsdl_text.specs.declared.token.Symbol.{Symbol}
use Rattle.tsdl_text.specs.declared.token.Symbol.TheVariants as s
use Rattle.tsdl_text.specs.declared.token.Token.{Token}
use Rattle.tsdl_grammar.specs.Terminals.{is, Is}
use Rattle.tsdl_grammar.specs.Repeats.{Many, Listed, Optional}
use Rattle.tsdl_grammar.specs.Steps.{Refusal, bad, deep, ◌>>=◌, Parse, or_bad, expect, past, open_at, loop, optional}
use Rattle.tsdl_grammar.proofs.Room.{room, is_brace, symbol_no_brace, room_same, room_open, room_shut, room_close}

-- What was taken is spelled as Q says, from room for so many braces to room for so many.
pub record Took {A : Type 0} (d e : ℕ) (ts : List Token) (Q : A → List Token → Type 0) (x : A) (rest : List Token) : Type 0 where
  pub taken : List Token
  pub splits : ts ≡ taken ++ rest
  pub spelled : Q x taken
  pub kept : room d ts ≡ room e rest

-- Where reading succeeds, it took that from the front, and it is too deep only where no room is left.
pub record Reads {A : Type 0} (r : Result (A × List Token) Refusal) (d e : ℕ) (ts : List Token) (Q : A → List Token → Type 0) : Type 0 where
  pub reads : (x : A) (rest : List Token) → r ≡ Ok (x, rest) → Took d e ts Q x rest
  pub too_deep : r ≡ Err deep → room d ts ≡ None

-- ---- results taken apart

pub bind_ok : {A B : Type 0} (r : Result A Refusal) (f : A → Result B Refusal) (y : B) → (r >>= f) ≡ Ok y → (x : A) × (r ≡ Ok x) × (f x ≡ Ok y)
bind_ok (Ok x) f y e = (x, refl, e)
bind_ok (Err d) f y e = absurd cc

pub bind_deep : {A B : Type 0} (r : Result A Refusal) (f : A → Result B Refusal) → (r >>= f) ≡ Err deep → (r ≡ Err deep) ⊎ ((x : A) × (r ≡ Ok x) × (f x ≡ Err deep))
bind_deep (Ok x) f e = inr (x, refl, e)
bind_deep (Err d) f e = inl cc

abbrev done : {A : Type 0} → A → Result A Refusal
done x = Ok x

pub ok_is : {A : Type 0} (x y : A) → done x ≡ done y → x ≡ y
ok_is x y e = cc

-- ---- steps

-- a step, and then the rest, which may know how the step split the tokens
pub reads_then_at : {A B : Type 0} {r : Result (A × List Token) Refusal} {d m e : ℕ} {ts : List Token} {P : A → List Token → Type 0} (f : A × List Token → Result (B × List Token) Refusal) {Q : B → List Token → Type 0}
    → Reads r d m ts P → ((x : A) (rest us : List Token) → ts ≡ us ++ rest → P x us → Reads (f (x, rest)) m e rest (λ y vs. Q y (us ++ vs))) → Reads (r >>= f) d e ts Q
reads_then_at {r = r} f first next = record {
  reads = λ y rest p.
      let a = bind_ok r f (y, rest) p in
      let b = first.reads a.0.0 a.0.1 a.1 in
      let c = (next a.0.0 a.0.1 b.taken b.splits b.spelled).reads y rest a.2 in
      record {
        taken = b.taken ++ c.taken;
        splits = b.splits ∙ ap (λ (ws : List Token). b.taken ++ ws) c.splits ∙ sym (append_assoc b.taken c.taken rest);
        spelled = c.spelled;
        kept = b.kept ∙ c.kept;
      };
  too_deep = λ p. elim (bind_deep r f p) [
    | inl q ↦ first.too_deep q
    | inr a ↦ let b = first.reads a.0.0 a.0.1 a.1 in b.kept ∙ (next a.0.0 a.0.1 b.taken b.splits b.spelled).too_deep a.2
  ];
}

pub reads_then : {A B : Type 0} {r : Result (A × List Token) Refusal} {d m e : ℕ} {ts : List Token} {P : A → List Token → Type 0} (f : A × List Token → Result (B × List Token) Refusal) {Q : B → List Token → Type 0}
    → Reads r d m ts P → ((x : A) (rest us : List Token) → P x us → Reads (f (x, rest)) m e rest (λ y vs. Q y (us ++ vs))) → Reads (r >>= f) d e ts Q
reads_then f first next = reads_then_at f first (λ x rest us p. next x rest us)

-- a last step
pub reads_last : {A B : Type 0} {r : Result (A × List Token) Refusal} {d e : ℕ} {ts : List Token} {P : A → List Token → Type 0} (g : A → B) {Q : B → List Token → Type 0}
    → Reads r d e ts P → ((x : A) (us : List Token) → P x us → Q (g x) us) → Reads (r >>= λ x. Ok (g x.0, x.1)) d e ts Q
reads_last {A} {B} {r = r} {e = e} g {Q = Q} first next = record {
  reads = λ y rest p.
      let a = bind_ok r (λ x. Ok (g x.0, x.1)) (y, rest) p in
      let b = first.reads a.0.0 a.0.1 a.1 in
      let q = ok_is (g a.0.0, a.0.1) (y, rest) a.2 in
      record {
        taken = b.taken;
        splits = b.splits ∙ ap (λ (v : B × List Token). b.taken ++ v.1) q;
        spelled = subst (λ (v : B × List Token). Q v.0 b.taken) q (next a.0.0 b.taken b.spelled);
        kept = b.kept ∙ ap (λ (v : B × List Token). room e v.1) q;
      };
  too_deep = λ p. elim (bind_deep r (λ x. Ok (g x.0, x.1)) p) [ inl q ↦ first.too_deep q | inr a ↦ absurd (not_deep (g a.0.0, a.0.1) a.2) ];
}
  where
    not_deep : {C : Type 0} (x : C) → done x ≡ Err deep → ⊥
    not_deep x p = cc

pub reads_as : {B : Type 0} {r : Result (B × List Token) Refusal} {d e : ℕ} {ts : List Token} {P Q : B → List Token → Type 0} → Reads r d e ts P → ((y : B) (us : List Token) → P y us → Q y us) → Reads r d e ts Q
reads_as h f = record {
  reads = λ y rest p. let a = h.reads y rest p in record { taken = a.taken; splits = a.splits; spelled = f y a.taken a.spelled; kept = a.kept };
  too_deep = h.too_deep;
}

-- the end of a reading
pub reads_done : {B : Type 0} {y : B} {d : ℕ} {ts : List Token} {Q : B → List Token → Type 0} → Q y [] → Reads (Ok (y, ts)) d d ts Q
reads_done {B} {y} {d} {ts} {Q} q = record {
  reads = λ z rest p.
      let e = ok_is (y, ts) (z, rest) p in
      record { taken = []; splits = ap (λ (v : B × List Token). v.1) e; spelled = subst (λ (v : B × List Token). Q v.0 []) e q; kept = ap (λ (v : B × List Token). room d v.1) e };
  too_deep = λ p. absurd cc;
}

pub reads_bad : {B : Type 0} {d e : ℕ} {ts : List Token} {Q : B → List Token → Type 0} → Reads (Err bad) d e ts Q
reads_bad = record { reads = λ y rest p. absurd cc; too_deep = λ p. absurd cc }

-- a first token before the rest
pub reads_after : {B : Type 0} {r : Result (B × List Token) Refusal} {d m e : ℕ} {t : Token} {ts : List Token} {Q : B → List Token → Type 0}
    → room d (t ∷ ts) ≡ room m ts → Reads r m e ts (λ y vs. Q y (t ∷ vs)) → Reads r d e (t ∷ ts) Q
reads_after {t = t} k h = record {
  reads = λ z rest p. let a = h.reads z rest p in record { taken = t ∷ a.taken; splits = ap (λ (ws : List Token). t ∷ ws) a.splits; spelled = a.spelled; kept = k ∙ a.kept };
  too_deep = λ p. k ∙ h.too_deep p;
}

-- a first token by itself
pub reads_first : {B : Type 0} {y : B} {d : ℕ} {t : Token} {ts : List Token} {Q : B → List Token → Type 0} → room d (t ∷ ts) ≡ room d ts → Q y (t ∷ []) → Reads (Ok (y, ts)) d d (t ∷ ts) Q
reads_first k q = reads_after k (reads_done q)

pub reads_if : {B : Type 0} {r q : Result (B × List Token) Refusal} {d e : ℕ} {ts : List Token} {Q : B → List Token → Type 0} (b : Bool) → (b ≡ true → Reads r d e ts Q) → (b ≡ false → Reads q d e ts Q) → Reads (cond b r q) d e ts Q
reads_if true f g = f refl
reads_if false f g = g refl

-- what was taken, by a split that is known
pub reads_front : {B : Type 0} {y : B} {d e : ℕ} (us : List Token) {rest ts : List Token} {Q : B → List Token → Type 0} → us ++ rest ≡ ts → room d ts ≡ room e rest → Q y us → Reads (Ok (y, rest)) d e ts Q
reads_front {B} {y} {d} {e} us {rest} {ts} {Q} s k q = record {
  reads = λ z left p.
      let a = ok_is (y, rest) (z, left) p in
      record {
        taken = us;
        splits = sym s ∙ ap (λ (v : B × List Token). us ++ v.1) a;
        spelled = subst (λ (v : B × List Token). Q v.0 us) a q;
        kept = k ∙ ap (λ (v : B × List Token). room e v.1) a;
      };
  too_deep = λ p. absurd cc;
}

-- ---- tokens

expect_by : (a : Symbol) (t : Token) (ts rest : List Token) (b : Bool) → is a t ≡ b → or_bad (cond b (Some ts) None) ≡ done rest → (u : Token) × (t ∷ ts ≡ u ∷ rest) × Is a u
expect_by a t ts rest true i p = (t, ap (λ (us : List Token). t ∷ us) (ok_is ts rest p), record { holds = i })
expect_by a t ts rest false i p = absurd cc

pub expect_ok : (a : Symbol) (ts rest : List Token) → expect a ts ≡ Ok rest → (t : Token) × (ts ≡ t ∷ rest) × Is a t
unfolding expect
expect_ok a [] rest p = absurd cc
expect_ok a (t ∷ ts) rest p = expect_by a t ts rest (is a t) refl p

or_bad_not_deep : {A : Type 0} (o : Option A) → or_bad o ≡ Err deep → ⊥
or_bad_not_deep None p = cc
or_bad_not_deep (Some x) p = cc

expect_not_deep : (a : Symbol) (ts : List Token) → expect a ts ≡ Err deep → ⊥
unfolding expect
expect_not_deep a [] p = cc
expect_not_deep a (t ∷ ts) p = or_bad_not_deep (cond (is a t) (Some ts) None) p

expect_reads : {B : Type 0} (a : Symbol) {d m e : ℕ} {ts : List Token} (f : List Token → Result (B × List Token) Refusal) {Q : B → List Token → Type 0}
    → ((t : Token) (rest : List Token) → Is a t → room d (t ∷ rest) ≡ room m rest)
    → ((t : Token) (rest : List Token) → Is a t → Reads (f rest) m e rest (λ y vs. Q y (t ∷ vs))) → Reads (expect a ts >>= f) d e ts Q
expect_reads a {d = d} {ts = ts} f k next = record {
  reads = λ y rest p.
      let b = bind_ok (expect a ts) f (y, rest) p in
      let t = expect_ok a ts b.0 b.1 in
      let c = (next t.0 b.0 t.2).reads y rest b.2 in
      record {
        taken = t.0 ∷ c.taken;
        splits = t.1 ∙ ap (λ (ws : List Token). t.0 ∷ ws) c.splits;
        spelled = c.spelled;
        kept = ap (room d) t.1 ∙ k t.0 b.0 t.2 ∙ c.kept;
      };
  too_deep = λ p. elim (bind_deep (expect a ts) f p) [
    | inl q ↦ absurd (expect_not_deep a ts q)
    | inr b ↦ let t = expect_ok a ts b.0 b.1 in ap (room d) t.1 ∙ k t.0 b.0 t.2 ∙ (next t.0 b.0 t.2).too_deep b.2
  ];
}

-- a symbol that is no brace
pub reads_token : {B : Type 0} (a : Symbol) {d e : ℕ} {ts : List Token} (f : List Token → Result (B × List Token) Refusal) {Q : B → List Token → Type 0}
    → is_brace a ≡ false → ((t : Token) (rest : List Token) → Is a t → Reads (f rest) d e rest (λ y vs. Q y (t ∷ vs))) → Reads (expect a ts >>= f) d e ts Q
reads_token a {d = d} f z next = expect_reads a f (λ t rest i. room_same (symbol_no_brace i z) d rest) next

pub reads_close : {B : Type 0} {d e : ℕ} {ts : List Token} (f : List Token → Result (B × List Token) Refusal) {Q : B → List Token → Type 0}
    → ((t : Token) (rest : List Token) → Is s.CloseBrace t → Reads (f rest) (suc d) e rest (λ y vs. Q y (t ∷ vs))) → Reads (expect s.CloseBrace ts >>= f) d e ts Q
reads_close {d = d} f next = expect_reads s.CloseBrace f (λ t rest i. room_close i d rest) next

-- a symbol that may be there
pub reads_past : {B : Type 0} (a : Symbol) {d e : ℕ} (ts : List Token) (f : List Token → Result (B × List Token) Refusal) {Q : B → List Token → Type 0}
    → is_brace a ≡ false → Reads (f ts) d e ts Q → ((t : Token) (rest : List Token) → Is a t → Reads (f rest) d e rest (λ y vs. Q y (t ∷ vs))) → Reads (f (past a ts)) d e ts Q
unfolding past
reads_past a [] f z none some = none
reads_past a {d = d} (t ∷ ts) f {Q = Q} z none some = elim (cases_Bool (is a t)) [
  | inl e ↦ rw e (let i : Is a t = record { holds = e } in reads_after (room_same (symbol_no_brace i z) d ts) (some t ts i))
  | inr e ↦ rw e none
]

-- an opening brace where none may nest
pub reads_shut : {B : Type 0} {e : ℕ} {ts : List Token} (f : List Token → Result (B × List Token) Refusal) {Q : B → List Token → Type 0} → Reads (open_at 0 ts >>= f) 0 e ts Q
unfolding open_at
reads_shut {ts = ts} f = record {
  reads = λ y rest p.
      let a = bind_ok (expect s.OpenBrace ts >>= λ inner. Err deep) f (y, rest) p in
      let b = bind_ok (expect s.OpenBrace ts) (λ inner. Err deep) a.0 a.1 in
      absurd (deep_not_ok a.0 b.2);
  too_deep = λ p. elim (bind_deep (expect s.OpenBrace ts >>= λ inner. Err deep) f p) [
    | inl q ↦ elim (bind_deep (expect s.OpenBrace ts) (λ inner. Err deep) q) [
      | inl l ↦ absurd (expect_not_deep s.OpenBrace ts l)
      | inr b ↦ let t = expect_ok s.OpenBrace ts b.0 b.1 in ap (room 0) t.1 ∙ room_shut t.2 b.0
    ]
    | inr a ↦ let b = bind_ok (expect s.OpenBrace ts) (λ inner. Err deep) a.0 a.1 in absurd (deep_not_ok a.0 b.2)
  ];
}
  where
    deep_not_ok : {C : Type 0} (x : C) → Err deep ≡ done x → ⊥
    deep_not_ok x p = cc

ok_again : {A : Type 0} (r : Result A Refusal) → (r >>= λ x. Ok x) ≡ r
ok_again (Ok x) = refl
ok_again (Err e) = refl

open_is : (d : ℕ) (ts : List Token) → open_at (suc d) ts ≡ expect s.OpenBrace ts
unfolding open_at
open_is d ts =
    let e : (suc d == 0) ≡ false = grind (arith, nat_tests) in
    ap (λ b. expect s.OpenBrace ts >>= λ rest. cond b (Err deep) (Ok rest)) e ∙ ok_again (expect s.OpenBrace ts)

-- an opening brace where one more may nest
pub reads_open : {B : Type 0} (d : ℕ) {e : ℕ} {ts : List Token} (f : List Token → Result (B × List Token) Refusal) {Q : B → List Token → Type 0}
    → ((t : Token) (rest : List Token) → Is s.OpenBrace t → Reads (f rest) d e rest (λ y vs. Q y (t ∷ vs))) → Reads (open_at (suc d) ts >>= f) (suc d) e ts Q
reads_open d {ts = ts} f next = rw (open_is d ts) (expect_reads s.OpenBrace f (λ t rest i. room_open i d rest) next)

-- ---- semicolons

-- up to a semicolon
pub data Ended {A : Type 0} (P : A → List Token → Type 0) : A → List Token → Type 0 where
  ended : {e : Token} {x : A} {ts : List Token} → P x ts → Is s.Semicolon e → Ended P x (ts ++ e ∷ [])

pub reads_ended : {A : Type 0} {r : Result (A × List Token) Refusal} {d e : ℕ} {ts : List Token} {P : A → List Token → Type 0} → Reads r d e ts P → Reads (r >>= λ x. expect s.Semicolon x.1 >>= λ end. Ok (x.0, end)) d e ts (Ended P)
reads_ended h = reads_then _ h (λ x rest us p. reads_token s.Semicolon _ refl (λ t rest i. reads_done (Ended.ended p i)))

-- ---- repeats

pub reads_loop : {A : Type 0} (go : List Token → Bool) (item : Parse A) {d : ℕ} (P : A → List Token → Type 0) → ((ts : List Token) → Reads (item ts) d d ts P) → (n : ℕ) (ts : List Token) → Reads (loop go item n ts) d d ts (Many P)
unfolding loop
reads_loop go item P h zero ts = reads_if (go ts) (λ e. reads_bad) (λ e. reads_done Many.none)
reads_loop go item P h (suc n) ts = reads_if (go ts) (λ e. reads_then _ (h ts) (λ x rest us p. reads_last (λ xs. x ∷ xs) (reads_loop go item P h n rest) (λ xs vs q. Many.more p q))) (λ e. reads_done Many.none)

pub reads_optional : {A : Type 0} (go : List Token → Bool) (item : Parse A) {d : ℕ} (P : A → List Token → Type 0) → ((ts : List Token) → Reads (item ts) d d ts P) → (ts : List Token) → Reads (optional go item ts) d d ts (Optional P)
unfolding optional
reads_optional go item P h ts = reads_if (go ts) (λ e. reads_last (λ x. Some x) (h ts) (λ x us p. Optional.some p)) (λ e. reads_done Optional.none)

-- one more after a comma
pub data IsNext {A : Type 0} (P : A → List Token → Type 0) : A → List Token → Type 0 where
  next : {c : Token} {x : A} {ts : List Token} → Is s.Comma c → P x ts → IsNext P x (c ∷ ts)

pub listed_of : {A : Type 0} {P : A → List Token → Type 0} {x : A} {xs : List A} (us : List Token) {vs : List Token} → P x us → Many (IsNext P) xs vs → Listed P (x ∷ xs) (us ++ vs)
listed_of us p Many.none = rw append-nil (Listed.last p)
listed_of us p (Many.more (IsNext.next {ts = ts} i q) m) = Listed.more p i (listed_of ts q m)
