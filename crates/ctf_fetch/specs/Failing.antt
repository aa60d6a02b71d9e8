-- Faults that are found while the bytes of a packet come.
use Rattle.std.specs.Prelude.{◌≡◌, List, ℕ, ◌++◌, Result, Err, IsTrue, IfErr}
use Rattle.ctf_bits.specs.declared.source.Ending.{Ending}
use Rattle.ctf_bits.specs.declared.source.Source.{Ghosts}
use Rattle.ctf_packet.specs.declared.fault.StreamFault.{StreamFault}
use Rattle.ctf_fetch.specs.Fetching.{OrNoMemory}
use Rattle.ctf_fetch.specs.declared.intake.Intake.{Intake}

-- what was looked for has this fault
abbrev pub FailsAs : {A : Type 0} → Result A StreamFault → StreamFault → Type 0
FailsAs found fault = found ≡ Err fault

module _ {S : Type 0} (g : Ghosts S) where
  -- of a source that tells its bytes: an error is that memory ran out, or a fault of which this holds, for how the
  -- source ends and for all bytes that came or are left
  abbrev pub IfFault : {A : Type 0} → Intake S → Intake S → Result A StreamFault
      → (Ending → List ℕ → StreamFault → Type 0) → Type 0
  IfFault old new result P =
      IsTrue (g.tells old.source.now)
      → IfErr result (OrNoMemory (P (g.ending old.source.now) (new.buffer.now ++ g.left new.source.now)))
