-- The first of faults in a row.
use Rattle.std.proofs.Common.{◌≡◌, Bool, true, false, List, [], ◌∷◌, ◌++◌, Option, Some, None, Result, Ok, Err, ◌⊎◌, inl, inr, sym, ap, ◌∙◌}
use Rattle.std.specs.Result.{IsErr, IsErrAnd}
use mathlib.Core.Bool.{true≢false}
use Rattle.ctf_meaning.specs.declared.fault.ResolveFault.{ResolveFault}
use Rattle.ctf_meaning.specs.declared.fault.ResolveFault.TheVariants.{NoMemory}
use Rattle.ctf_meaning.specs.There.{first}
use Rattle.ctf_attributes.specs.Tells.{Tells, TellsFirst}

there : Option ResolveFault → Bool
there None = false
there (Some f) = true

none-some : (f : ResolveFault) → None ≡ Some f → ⊥
unfolding there
none-some f h = true≢false (sym (ap there h))

pub still : (xs ys : List ResolveFault) (f : ResolveFault) → first xs ≡ Some f → first (xs ++ ys) ≡ Some f
still [] ys f h = absurd (none-some f h)
still (x ∷ xs) ys f h = h

pub after : (xs ys : List ResolveFault) (f : ResolveFault) → xs ≡ [] → first ys ≡ Some f → first (xs ++ ys) ≡ Some f
after xs ys f clean h = ap (λ z. first (z ++ ys)) clean ∙ h

pub both : (xs ys : List ResolveFault) → xs ≡ [] → ys ≡ [] → xs ++ ys ≡ []
both xs ys clean h = ap (λ z. z ++ ys) clean ∙ h

-- three, and two, after others
pub three : (z a b c : List ResolveFault) → z ≡ [] → a ++ b ++ c ≡ [] → z ++ a ++ b ++ c ≡ []
three z a b c clean h = ap (λ x. x ++ a ++ b ++ c) clean ∙ h

pub two : (z a b : List ResolveFault) → z ≡ [] → a ++ b ≡ [] → z ++ a ++ b ≡ []
two z a b clean h = ap (λ x. x ++ a ++ b) clean ∙ h

pub first-of-two : (z a b : List ResolveFault) (f : ResolveFault) → z ≡ [] → first (a ++ b) ≡ Some f → first (z ++ a ++ b) ≡ Some f
first-of-two z a b f clean h = ap (λ x. first (x ++ a ++ b)) clean ∙ h

-- what is reported where a call's fault is handed on
pub handed : {V : Type 0} (faults : List ResolveFault) (P : V → Type 0) (r : Result V ResolveFault) (f : ResolveFault) → IsErr r × IsErrAnd r (λ e. e ≡ f) → first faults ≡ Some f → Tells faults P r
handed faults P (Ok v) f h k = absurd h.1
handed faults P (Err e) f h k = inr (k ∙ ap (λ x. Some x) (sym h.1))

-- the first fault of two lists, of which the first is empty, or out of memory
pub told-after : (xs ys : List ResolveFault) (f : ResolveFault) → xs ≡ [] → (f ≡ NoMemory) ⊎ (first ys ≡ Some f) → (f ≡ NoMemory) ⊎ (first (xs ++ ys) ≡ Some f)
told-after xs ys f clean (inl refused) = inl refused
told-after xs ys f clean (inr told) = inr (after xs ys f clean told)

pub handed-told : {V : Type 0} (faults : List ResolveFault) (P : V → Type 0) (r : Result V ResolveFault) (f : ResolveFault) → IsErr r × IsErrAnd r (λ e. e ≡ f) → (f ≡ NoMemory) ⊎ (first faults ≡ Some f) → Tells faults P r
handed-told faults P (Ok v) f h k = absurd h.1
handed-told faults P (Err e) f h (inl refused) = inl (h.1 ∙ refused)
handed-told faults P (Err e) f h (inr told) = inr (told ∙ ap (λ x. Some x) (sym h.1))

-- what is reported where a call's fault is handed on and no memory is taken
pub handed-first : {V : Type 0} (faults : List ResolveFault) (P : V → Type 0) (r : Result V ResolveFault) (f : ResolveFault) → IsErr r × IsErrAnd r (λ e. e ≡ f) → first faults ≡ Some f → TellsFirst faults P r
handed-first faults P (Ok v) f h k = absurd h.1
handed-first faults P (Err e) f h k = k ∙ ap (λ x. Some x) (sym h.1)

-- the first fault of two lists, of which the first is empty, where no memory is taken
pub first-after : {V : Type 0} (xs ys : List ResolveFault) (P : V → Type 0) (r : Result V ResolveFault) → xs ≡ [] → TellsFirst ys P r → TellsFirst (xs ++ ys) P r
first-after xs ys P (Ok v) clean h = (both xs ys clean h.0, h.1)
first-after xs ys P (Err f) clean h = after xs ys f clean h
