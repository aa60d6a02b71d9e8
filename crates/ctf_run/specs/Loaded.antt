-- The classes of traces, and why there are none.
use Rattle.std.specs.Prelude.{◌≡◌, ℕ, false, cond, List, Some, take, slice_get}
use Rattle.std.specs.List.{AllZip}
use Rattle.ctf_class.specs.declared.trace.TraceClass.{TraceClass}
use Rattle.ctf_load.specs.Loading.{Describes, IsBroken}
use Rattle.ctf_faults.specs.Table.{is_refusal}
use Rattle.ctf_faults.specs.declared.load.LoadFault.{LoadFault}
use Rattle.ctf_faults.specs.declared.outcome.RunFault.{RunFault}
use Rattle.ctf_faults.specs.declared.outcome.RunFault.TheVariants.{Metadata, Stream, NoMemory}
use Rattle.ctf_run.specs.declared.loading.Unloaded.{Unloaded}
use Rattle.ctf_run.specs.declared.loading.Unloaded.TheVariants as unloaded
use Rattle.ctf_run.specs.declared.trace.Trace.{Trace}

-- why metadata have no class, as the fault of trace 0
abbrev pub IsLoadFault : List ℕ → RunFault → Type 0
IsLoadFault metadata (Metadata number fault) =
    (number ≡ 0) × IsBroken metadata fault × (is_refusal fault ≡ false)
IsLoadFault metadata (Stream number fault) = ⊥
IsLoadFault metadata NoMemory = Unit {0}

-- each trace has the class that its metadata denote
abbrev pub HaveClasses : {S : Type 0} → List (Trace S) → List TraceClass → Type 0
HaveClasses traces classes = AllZip (λ t class. Describes t.metadata.items class) traces classes

-- the trace of this number has this fault, and those before it have classes
pub record IsFirstFault {S : Type 0} (traces : List (Trace S)) (number : ℕ) (fault : LoadFault)
    : Type 0 where
  pub trace : Trace S
  pub at : slice_get traces number ≡ Some trace
  pub classes : List TraceClass
  pub before : HaveClasses (take number traces) classes
  pub broken : IsBroken trace.metadata.items fault
  pub named : is_refusal fault ≡ false

-- why not each trace has a class
abbrev pub IsUnloaded : {S : Type 0} → List (Trace S) → Unloaded → Type 0
IsUnloaded traces (unloaded.Broken number fault) = IsFirstFault traces number fault
IsUnloaded traces unloaded.NoMemory = Unit {0}

-- the fault of the metadata of a trace, but out of memory is one of no trace
abbrev pub of_trace : ℕ → LoadFault → Unloaded
of_trace trace fault = cond (is_refusal fault) unloaded.NoMemory (unloaded.Broken trace fault)
