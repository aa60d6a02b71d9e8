-- What settings report, one list of faults after another.
use Rattle.std.proofs.Common.{◌≡◌, List, [], ◌∷◌, ◌++◌, Result, Ok, Err, Some, OnOk, refl, ap, sym, ◌∙◌, subst, inl, inr}
use Rattle.std.specs.Prelude.{◌⊎◌}
use Rattle.ctf_meaning.specs.declared.fault.ResolveFault.{ResolveFault}
use Rattle.ctf_meaning.specs.declared.fault.ResolveFault.TheVariants.{NoMemory}
use Rattle.ctf_meaning.specs.There.{first}
use Rattle.ctf_meaning_steps.specs.Told.{Told, unless}
use Rattle.ctf_attributes.specs.Tells.{Tells}
use Rattle.ctf_declarations.proofs.Steps.{Tell, unless_first}

first_front : (fs gs : List ResolveFault) (f : ResolveFault) → first fs ≡ Some f → first (fs ++ gs) ≡ Some f
first_front [] gs f h = cc
first_front (g ∷ fs) gs f h = h

abbrev pub FirstOf : List ResolveFault → ResolveFault → Type 0
FirstOf fs f = (f ≡ NoMemory) ⊎ (first fs ≡ Some f)

pub front_fault : (fs gs : List ResolveFault) (f : ResolveFault) → FirstOf fs f → FirstOf (fs ++ gs) f
front_fault fs gs f (inl n) = inl n
front_fault fs gs f (inr h) = inr (first_front fs gs f h)

pub after_fault : (fs gs : List ResolveFault) (f : ResolveFault) → fs ≡ [] → FirstOf gs f → FirstOf (fs ++ gs) f
after_fault fs gs f e h = subst (λ fs. FirstOf (fs ++ gs) f) (sym e) h

pub both_empty : (fs gs : List ResolveFault) → fs ≡ [] → gs ≡ [] → fs ++ gs ≡ []
both_empty fs gs e h = ap (λ l. l ++ gs) e ∙ h

pub tells_after : {V : Type 0} (fs gs : List ResolveFault) (IsValue : V → Type 0) (r : Result V ResolveFault) → fs ≡ [] → Tells gs IsValue r → Tells (fs ++ gs) IsValue r
tells_after fs gs IsValue r e h = subst (λ fs. Tells (fs ++ gs) IsValue r) (sym e) h

pub unless_more : {A : Type 0} (fs gs : List ResolveFault) (t : Told A) → unless (fs ++ gs) t ≡ unless fs (unless gs t)
unless_more [] gs t = refl
unless_more (f ∷ fs) gs t = refl

pub unless_fault : {A : Type 0} (fs : List ResolveFault) (t : Told A) (f : ResolveFault) → FirstOf fs f → Tell (unless fs t) f
unless_fault fs t f (inl n) = inl n
unless_fault fs t f (inr h) = inr (unless_first fs t f h)

pub only_memory : {A B : Type 0} (a : A) (t : Told B) (f : ResolveFault) → Tell (Ok a) f → Tell t f
only_memory a t f (inl n) = inl n
only_memory a t f (inr h) = absurd (cc)

pub on_ok : {V : Type 0} {P : Type 0} (r : Result V ResolveFault) → P → OnOk r P
on_ok (Ok v) p = p
on_ok (Err f) p = tt
