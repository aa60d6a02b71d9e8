-- Steps that may fail, one after another.
use Rattle.std.proofs.Common.{◌≡◌, ℕ, ◌+◌, ◌<◌, suc, List, [], ◌∷◌, drop, length, get_or, Result, Ok, Err, Some, refl, ap, sym, ◌∙◌, subst, inl, inr, add-one}
use Rattle.std.specs.Prelude.{◌⊎◌}
use Rattle.std.proofs.Math.Seq.{drop-cons}
use Rattle.ctf_meaning.specs.declared.fault.ResolveFault.{ResolveFault}
use Rattle.ctf_meaning.specs.declared.fault.ResolveFault.TheVariants.{NoMemory}
use Rattle.ctf_meaning.specs.There.{first}
use Rattle.ctf_meaning_steps.specs.Told.{Told, ◌>>=◌, unless, Follows}
use Rattle.ctf_attributes.specs.Tells.{Tells}

-- what an error reports of what a step gives
abbrev pub Tell : {A : Type 0} → Told A → ResolveFault → Type 0
Tell told fault = (fault ≡ NoMemory) ⊎ (told ≡ Err fault)

pub tell_same : {A : Type 0} (t u : Told A) (f : ResolveFault) → t ≡ u → Tell t f → Tell u f
tell_same t u f e (inl n) = inl n
tell_same t u f e (inr h) = inr (sym e ∙ h)

pub bind_fault : {A B : Type 0} (t : Told A) (g : A → Told B) (f : ResolveFault) → Tell t f → Tell (t >>= g) f
bind_fault t g f (inl n) = inl n
bind_fault t g f (inr h) = inr (ap (λ t. t >>= g) h)

pub unless_first : {A : Type 0} (faults : List ResolveFault) (t : Told A) (f : ResolveFault) → first faults ≡ Some f → unless faults t ≡ Err f
unless_first [] t f h = cc
unless_first (g ∷ gs) t f h = cc

pub unless_bind : {A B : Type 0} (faults : List ResolveFault) (t : Told A) (g : A → Told B) → unless faults (t >>= g) ≡ ((unless faults t) >>= g)
unless_bind [] t g = refl
unless_bind (f ∷ fs) t g = refl

pub bind_map : {A B C : Type 0} (t : Told A) (g : A → B) (h : B → Told C) → (t >>= λ a. h (g a)) ≡ ((t >>= λ a. Ok (g a)) >>= h)
bind_map (Ok a) g h = refl
bind_map (Err f) g h = refl

-- what settings report, as a step
pub tells_value : {A V : Type 0} (faults : List ResolveFault) (view : V → A) (a : A) (r : Result V ResolveFault) → Tells faults (λ v. view v ≡ a) r → Follows (unless faults (Ok a)) view r
tells_value faults view a (Ok v) h = ap (λ fs. unless fs (Ok a)) h.0 ∙ ap Ok (sym h.1)
tells_value faults view a (Err f) (inl n) = inl n
tells_value faults view a (Err f) (inr h) = inr (unless_first faults (Ok a) f h)

module _ {A V : Type 0} (view : V → A) (r : Result V ResolveFault) where
  pub follows_same : (t u : Told A) → t ≡ u → Follows t view r → Follows u view r
  follows_same t u e h = subst (λ t. Follows t view r) e h

  pub follows_unless : (faults : List ResolveFault) (t : Told A) → faults ≡ [] → Follows t view r → Follows (unless faults t) view r
  follows_unless faults t e h = subst (λ fs. Follows (unless fs t) view r) (sym e) h

  pub follows_bind : {B : Type 0} (t : Told B) (g : B → Told A) (b : B) → t ≡ Ok b → Follows (g b) view r → Follows (t >>= g) view r
  follows_bind t g b e h = subst (λ t. Follows (t >>= g) view r) (sym e) h

pub follows_map : {A B V : Type 0} (t : Told A) (view : V → A) (g : A → B) (r : Result V ResolveFault) → Follows t view r → Follows (t >>= λ a. Ok (g a)) (λ v. g (view v)) r
follows_map t view g (Ok v) h = ap (λ t. t >>= λ a. Ok (g a)) h
follows_map t view g (Err f) (inl n) = inl n
follows_map t view g (Err f) (inr h) = inr (ap (λ t. t >>= λ a. Ok (g a)) h)

-- an element and those after it
pub drop_next : {X : Type 0} (xs : List X) (i : ℕ) (x : X) → x ≡ get_or xs i x → i < length xs → drop i xs ≡ x ∷ drop (i + 1) xs
drop_next xs i x is h = drop-cons xs i x h ∙ ap (λ y. y ∷ drop (suc i) xs) (sym is) ∙ ap (λ k. x ∷ drop k xs) (sym (add-one i))
