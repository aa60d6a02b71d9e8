-- What a function says of settings: their value, or the first of what is wrong with them.
use Rattle.std.specs.Prelude.{◌≡◌, ◌⊎◌, List, [], Some, Result, Ok, Err}
use Rattle.ctf_meaning.specs.declared.fault.ResolveFault.{ResolveFault}
use Rattle.ctf_meaning.specs.declared.fault.ResolveFault.TheVariants.{NoMemory}
use Rattle.ctf_meaning.specs.There.{first}

-- Where nothing is wrong, the value; else the first fault, or that an allocation failed.
abbrev pub Tells : {V : Type 0} → List ResolveFault → (V → Type 0) → Result V ResolveFault → Type 0
Tells faults IsValue (Ok v) = (faults ≡ []) × IsValue v
Tells faults IsValue (Err fault) = (fault ≡ NoMemory) ⊎ (first faults ≡ Some fault)

-- Where nothing is wrong, the value; else the first fault: the function takes no memory.
abbrev pub TellsFirst : {V : Type 0} → List ResolveFault → (V → Type 0) → Result V ResolveFault
    → Type 0
TellsFirst faults IsValue (Ok v) = (faults ≡ []) × IsValue v
TellsFirst faults IsValue (Err fault) = first faults ≡ Some fault

-- that there is no value to speak of
abbrev pub Nothing : {V : Type 0} → V → Type 0
Nothing v = Unit {0}
