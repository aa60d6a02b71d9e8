-- What holds of the meaning of all metadata.
use Rattle.std.specs.Prelude.{◌≡◌, ◌⊎◌, ℕ, false, List}
use Rattle.ctf_class.specs.declared.trace.TraceClass.{TraceClass}
use Rattle.ctf_faults.specs.Table.{is_refusal}
use Rattle.ctf_faults.specs.declared.load.LoadFault.{LoadFault}
use Rattle.ctf_load.specs.Loading.{Describes, IsBroken}

-- Metadata denotes a trace class, or has a fault, which is not out of memory.
abbrev pub ClassOrFault : Type 0
ClassOrFault =
    (bytes : List ℕ)
    → ((trace : TraceClass) × Describes bytes trace)
    ⊎ ((fault : LoadFault) × IsBroken bytes fault × (is_refusal fault ≡ false))
