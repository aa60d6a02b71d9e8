-- The line of a fault of metadata.
use Rattle.std.specs.Prelude.{◌≡◌, ℕ, cond, List, [], length, nat_lt, Option, None, slice_get, option_map, string_bytes}
use Rattle.ctf_faults.specs.Lines.{metadata_line}
use Rattle.ctf_faults.specs.declared.load.LoadFault.{LoadFault}
use Rattle.ctf_faults.specs.declared.outcome.Outcome.{Outcome}
use Rattle.ctf_faults.specs.declared.outcome.Outcome.TheVariants as outcomes
use Rattle.ctf_faults.specs.declared.outcome.RunFault.TheVariants as faults
use Rattle.ctf_session.specs.Writing.{Texts, Written, Writes, WritesParts}
use Rattle.ctf_run.specs.declared.trace.Trace.{Trace}

-- the name of the trace of a number, where there are several
abbrev pub name_at : {S : Type 0} → List (Trace S) → ℕ → Option (List ℕ)
name_at traces number =
    cond (nat_lt 1 (length traces))
    (option_map (λ t. string_bytes t.name) (slice_get traces number)) None

abbrev pub fault_texts : {S : Type 0} → List (Trace S) → ℕ → LoadFault → Texts
fault_texts traces number fault = record {
  output = [];
  messages = metadata_line fault (name_at traces number);
}

-- the line of the fault was written, or a first part of it
abbrev pub TellsFault : {S : Type 0} → List (Trace S) → ℕ → LoadFault → Outcome → Written → Type 0
TellsFault traces number fault outcomes.Done w = ⊥
TellsFault traces number fault (outcomes.Fault f) w =
    (f ≡ faults.Metadata number fault) × Writes w (fault_texts traces number fault)
TellsFault traces number fault outcomes.WriteFailed w =
    WritesParts w (fault_texts traces number fault)
TellsFault traces number fault outcomes.NoMemory w = WritesParts w (fault_texts traces number fault)
