-- A value, or the fault that is reported.
use Rattle.std.specs.Prelude.{◌≡◌, ◌⊎◌, List, [], ◌∷◌, Option, Some, None, Result, Ok, Err}
use Rattle.ctf_meaning.specs.declared.fault.ResolveFault.{ResolveFault}
use Rattle.ctf_meaning.specs.declared.fault.ResolveFault.TheVariants.{NoMemory}

abbrev pub Told : Type 0 → Type 0
Told A = Result A ResolveFault

-- what follows from a value: a fault ends all
infixl 10 ◌>>=◌
abbrev pub ◌>>=◌ : {A B : Type 0} → Told A → (A → Told B) → Told B
Ok a >>= f = f a
Err fault >>= f = Err fault

-- the first of some faults, or what follows where there is none
abbrev pub unless : {A : Type 0} → List ResolveFault → Told A → Told A
unless [] told = told
unless (fault ∷ more) told = Err fault

-- a value, or this fault where there is none
abbrev pub there_or : {A : Type 0} → ResolveFault → Option A → Told A
there_or fault None = Err fault
there_or fault (Some a) = Ok a

-- what code answers that goes so far: the value, or the fault that is reported, unless an allocation failed
abbrev pub Follows : {A V : Type 0} → Told A → (V → A) → Result V ResolveFault → Type 0
Follows told view (Ok v) = told ≡ Ok (view v)
Follows told view (Err fault) = (fault ≡ NoMemory) ⊎ (told ≡ Err fault)
