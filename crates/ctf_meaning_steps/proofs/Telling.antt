-- What is reported beside a list of faults: a value where the list is empty, and else one of its faults.
use Rattle.std.proofs.Common.{◌≡◌, ◌⊎◌, inl, inr, Bool, true, false, List, [], ◌∷◌, ◌++◌, Option, Some, None, Ok, Err, refl, ap, sym, ◌∙◌, subst, Contains, is_none, arith}
use Rattle.std.proofs.lemmas.List.Elements.{Contains-append_left, Contains-append_right}
use Rattle.ctf_meaning.specs.declared.fault.ResolveFault.{ResolveFault}
use Rattle.ctf_meaning.specs.declared.fault.ResolveFault.TheVariants.{TooDeep}
use Rattle.ctf_meaning.specs.Settings.{when}
use Rattle.ctf_meaning_steps.specs.Told.{Told, ◌>>=◌, unless, there_or}

pub append_none : {X : Type 0} (xs ys : List X) → xs ≡ [] → ys ≡ [] → xs ++ ys ≡ []
append_none xs ys e f = ap (λ zs. zs ++ ys) e ∙ f

pub contains_first : {X : Type 0} (x : X) (xs : List X) → Contains (x ∷ xs) x
contains_first x xs = (0, omega arith, refl)

pub contains_when : (b : Bool) (fault : ResolveFault) → b ≡ true → Contains (when b fault) fault
contains_when true fault e = contains_first fault []
contains_when false fault e = absurd (grind (arith, e))

-- The fault counts where P holds.
module _ (P : Type 0) where
  abbrev pub Tells : {A : Type 0} → Told A → List ResolveFault → (A → Type 0) → Type 0
  Tells (Ok a) faults Q = (faults ≡ []) × Q a
  Tells (Err fault) faults Q = P → Contains faults fault

  -- after other faults, of which there is none
  tells_after : {A : Type 0} (t : Told A) (F G : List ResolveFault) (Q : A → Type 0) → F ≡ [] → Tells t G Q → Tells t (F ++ G) Q
  tells_after (Ok a) F G Q e h = (append_none F G e h.0, h.1)
  tells_after (Err fault) F G Q e h = λ p. Contains-append_right F G fault (h p)

  pub tells_then : {A B : Type 0} (t : Told A) (next : A → Told B) (F G : List ResolveFault) (Q : A → Type 0) (R : B → Type 0) →
      Tells t F Q → ((a : A) → F ≡ [] → Q a → Tells (next a) G R) → Tells (t >>= next) (F ++ G) R
  tells_then (Ok a) next F G Q R h k = tells_after (next a) F G R h.0 (k a h.0 h.1)
  tells_then (Err fault) next F G Q R h k = λ p. Contains-append_left F G fault (h p)

  -- a value that is made of another
  pub tells_made : {A B : Type 0} (t : Told A) (make : A → B) (F : List ResolveFault) (Q : A → Type 0) (R : B → Type 0) →
      Tells t F Q → ((a : A) → F ≡ [] → Q a → R (make a)) → Tells (t >>= λ a. Ok (make a)) F R
  tells_made (Ok a) make F Q R h k = (h.0, k a h.0 h.1)
  tells_made (Err fault) make F Q R h k = h

  pub tells_unless : {A : Type 0} (F : List ResolveFault) (t : Told A) (G : List ResolveFault) (Q : A → Type 0) → (F ≡ [] → Tells t G Q) → Tells (unless F t) (F ++ G) Q
  tells_unless [] t G Q h = h refl
  tells_unless (fault ∷ more) t G Q h = λ p. contains_first fault (more ++ G)

  pub tells_there : {A : Type 0} (fault : ResolveFault) (o : Option A) → Tells (there_or fault o) (when (is_none o) fault) (λ a. o ≡ Some a)
  tells_there fault None = λ p. contains_first fault []
  tells_there fault (Some a) = (refl, refl)

  pub tells_same : {A : Type 0} (t : Told A) (F G : List ResolveFault) (Q : A → Type 0) → F ≡ G → Tells t F Q → Tells t G Q
  tells_same t F G Q e h = subst (λ fs. Tells t fs Q) e h

  pub tells_as : {A : Type 0} (t : Told A) (F : List ResolveFault) (Q R : A → Type 0) → ((a : A) → Q a → R a) → Tells t F Q → Tells t F R
  tells_as (Ok a) F Q R k h = (h.0, k a h.1)
  tells_as (Err fault) F Q R k h = h

  -- by other faults, of which there are none where these are not
  pub tells_by : {A : Type 0} (t : Told A) (F G : List ResolveFault) (Q : A → Type 0) → (F ≡ [] → G ≡ []) → ((fault : ResolveFault) → Contains F fault → Contains G fault) →
      Tells t F Q → Tells t G Q
  tells_by (Ok a) F G Q none some h = (none h.0, h.1)
  tells_by (Err fault) F G Q none some h = λ p. some fault (h p)

pub tells_under : (P O : Type 0) {A : Type 0} (t : Told A) (F : List ResolveFault) (Q : A → Type 0) → (P → O) → Tells O t F Q → Tells P t F Q
tells_under P O (Ok a) F Q k h = h
tells_under P O (Err fault) F Q k h = λ p. h (k p)

-- Beside the faults, that a class is too deep may be reported where it is.
abbrev pub TellsDeep : {A : Type 0} → Told A → List ResolveFault → Bool → (A → Type 0) → Type 0
TellsDeep (Ok a) faults deep Q = (faults ≡ []) × Q a
TellsDeep (Err fault) faults deep Q = Contains faults fault ⊎ ((fault ≡ TooDeep) × (deep ≡ true))

pub deep_as : {A : Type 0} (t : Told A) (F : List ResolveFault) (deep : Bool) (Q : A → Type 0) → Tells (Unit {0}) t F Q → TellsDeep t F deep Q
deep_as (Ok a) F deep Q h = h
deep_as (Err fault) F deep Q h = inl (h tt)

-- with other faults and another class, which is too deep where this one is
pub deep_by : {A : Type 0} (t : Told A) (F G : List ResolveFault) (b c : Bool) (Q R : A → Type 0) → F ≡ G → (b ≡ true → c ≡ true) → ((a : A) → Q a → R a) → TellsDeep t F b Q → TellsDeep t G c R
deep_by (Ok a) F G b c Q R e k r h = (sym e ∙ h.0, r a h.1)
deep_by (Err fault) F G b c Q R e k r (inl h) = inl (subst (λ fs. Contains fs fault) e h)
deep_by (Err fault) F G b c Q R e k r (inr h) = inr (h.0, k h.1)

-- after other faults, of which there is none
deep_more : {B : Type 0} (t : Told B) (F G : List ResolveFault) (deep : Bool) (R : B → Type 0) → F ≡ [] → TellsDeep t G deep R → TellsDeep t (F ++ G) deep R
deep_more (Ok b) F G deep R e m = (append_none F G e m.0, m.1)
deep_more (Err fault) F G deep R e (inl m) = inl (Contains-append_right F G fault m)
deep_more (Err fault) F G deep R e (inr m) = inr m

-- first faults that are reported of no deep class
pub deep_after : {A B : Type 0} (t : Told A) (next : A → Told B) (F G : List ResolveFault) (deep : Bool) (Q : A → Type 0) (R : B → Type 0) →
    Tells (Unit {0}) t F Q → ((a : A) → F ≡ [] → Q a → TellsDeep (next a) G deep R) → TellsDeep (t >>= next) (F ++ G) deep R
deep_after (Ok a) next F G deep Q R h k = deep_more (next a) F G deep R h.0 (k a h.0 h.1)
deep_after (Err fault) next F G deep Q R h k = inl (Contains-append_left F G fault (h tt))

pub deep_then : {A B : Type 0} (t : Told A) (next : A → Told B) (F G : List ResolveFault) (b c : Bool) (Q : A → Type 0) (R : B → Type 0) → (b ≡ true → c ≡ true) →
    TellsDeep t F b Q → ((a : A) → F ≡ [] → Q a → Tells (Unit {0}) (next a) G R) → TellsDeep (t >>= next) (F ++ G) c R
deep_then (Ok a) next F G b c Q R k h n = deep_as (next a) (F ++ G) c R (tells_after (Unit {0}) (next a) F G R h.0 (n a h.0 h.1))
deep_then (Err fault) next F G b c Q R k (inl h) n = inl (Contains-append_left F G fault h)
deep_then (Err fault) next F G b c Q R k (inr h) n = inr (h.0, k h.1)

-- where the faults that follow have that a class is too deep
pub then_deep : {A B : Type 0} (t : Told A) (next : A → Told B) (F G : List ResolveFault) (deep : Bool) (Q : A → Type 0) (R : B → Type 0) → (deep ≡ true → Contains G TooDeep) →
    TellsDeep t F deep Q → ((a : A) → F ≡ [] → Q a → Tells (Unit {0}) (next a) G R) → Tells (Unit {0}) (t >>= next) (F ++ G) R
then_deep (Ok a) next F G deep Q R k h n = tells_after (Unit {0}) (next a) F G R h.0 (n a h.0 h.1)
then_deep (Err fault) next F G deep Q R k (inl h) n = λ u. Contains-append_left F G fault h
then_deep (Err fault) next F G deep Q R k (inr h) n = λ u. Contains-append_right F G fault (subst (λ f. Contains G f) (sym h.0) (k h.1))
