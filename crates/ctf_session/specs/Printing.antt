-- What the printing of a text does.
use Rattle.std.specs.Prelude.{◌≡◌, ℕ, Option, Some, None, Result, Ok, Err}
use Rattle.ctf_bits.specs.declared.sink.SinkFault.{SinkFault}
use Rattle.ctf_bits.specs.declared.sink.SinkFault.TheVariants as sink
use Rattle.ctf_faults.specs.declared.outcome.Outcome.{Outcome}
use Rattle.ctf_faults.specs.declared.outcome.Outcome.TheVariants as outcomes
use Rattle.ctf_merge.specs.declared.fault.MergeFault.TheVariants.{Stream}
use Rattle.ctf_packet.specs.declared.fault.StreamFault.{StreamFault}
use Rattle.ctf_session.specs.Answers.{Setting, fault_of, fault_texts}
use Rattle.ctf_session.specs.Endings.{stop_outcome}
use Rattle.ctf_session.specs.Steps.{Counts, CountsAfter}
use Rattle.ctf_session.specs.declared.step.Stop.{Stop}
use Rattle.ctf_session.specs.declared.step.Stop.TheVariants as stops
use Rattle.ctf_session.specs.Writing.{Texts, Written, Writes, WritesParts}

-- what a put stops
abbrev pub stop_of : Result Unit SinkFault → Option Stop
stop_of (Ok done) = None
stop_of (Err sink.Failed) = Some stops.WriteFailed
stop_of (Err sink.NoMemory) = Some stops.NoMemory

-- texts were written, or first parts of them
abbrev pub Prints : Texts → Option Stop → Written → Type 0
Prints texts None w = Writes w texts
Prints texts (Some o) w = WritesParts w texts

abbrev pub CountsAfterPrint : Option Stop → Counts → Counts → Type 0
CountsAfterPrint None old new = new ≡ old
CountsAfterPrint (Some stop) old new = CountsAfter (stop_outcome stop) old new

-- an item was printed, which is then the last one; or its printing was stopped
abbrev pub stop_in : {A : Type 0} → Result A Stop → Option Stop
stop_in (Ok done) = None
stop_in (Err stop) = Some stop

-- A fault's line was written, or a first part of it; out of memory has none.
abbrev pub TellsFault : Setting → ℕ → StreamFault → Outcome → Written → Type 0
TellsFault setting number fault outcomes.Done w = ⊥
TellsFault setting number fault (outcomes.Fault f) w =
    (f ≡ fault_of setting (Stream number fault))
    × Writes w (fault_texts setting (Some (Stream number fault)))
TellsFault setting number fault outcomes.WriteFailed w =
    WritesParts w (fault_texts setting (Some (Stream number fault)))
TellsFault setting number fault outcomes.NoMemory w =
    WritesParts w (fault_texts setting (Some (Stream number fault)))
