-- What is given while the bytes of a packet come.
use Rattle.std.specs.Prelude.{◌≡◌, ℕ, ◌*◌, ◌≤◌, ◌<◌, min, List, [], ◌++◌, length, Option, Some, None, Result, Ok, Err}
use Rattle.ctf_bits.specs.declared.source.Ending.{Ending}
use Rattle.ctf_clock.specs.declared.moment.Shift.{Shift}
use Rattle.ctf_decode.specs.Breaks.{past}
use Rattle.ctf_decode.specs.Known.{Known}
use Rattle.ctf_packet.specs.Classes.{Classes}
use Rattle.ctf_packet.specs.Scopes.{longest, cut_short, fault_in_front}
use Rattle.ctf_packet.specs.Packets.{Opened, sizes_checked}
use Rattle.ctf_packet.specs.Views.{values_of, opened_of}
use Rattle.ctf_packet.specs.declared.packet.OpenPacket.{OpenPacket}
use Rattle.ctf_packet.specs.declared.sizes.Sizes.{Sizes}
use Rattle.ctf_packet.specs.declared.fault.StreamFault.{StreamFault}
use Rattle.ctf_packet.specs.declared.fault.StreamFault.TheVariants as faults
use Rattle.ctf_packet_demand.specs.Wants as wants
use Rattle.ctf_packet_demand.specs.Gives.{begun_of}
use Rattle.ctf_fetch.specs.Fetching.{longest_bytes, OrNoMemory}
use Rattle.ctf_fetch.specs.declared.packet_start.Opening.{Opening}

-- the bytes up to a bit came; or the stream ends before, or no packet is so long
abbrev pub TakesMore : Ending → ℕ → List ℕ → List ℕ → Result (Unit {0}) StreamFault → Type 0
TakesMore ending bits bytes left (Ok done) = Unit {0}
TakesMore ending bits bytes left (Err fault) =
    OrNoMemory
    (λ f. (f ≡ fault_in_front ending (past bits))
    × (min (8 * length (bytes ++ left)) longest < bits)) fault

-- what a packet with this opening asks for
abbrev pub want_of : Shift → Known → Opening → Option Sizes → wants.Want Classes
want_of shift known opening (Some sizes) =
    wants.whole (begun_of shift (values_of known) opening.begun) sizes
want_of shift known opening None = wants.rest (begun_of shift (values_of known) opening.begun)

-- as far as counts say it of any source: the bytes that came are no more than the packet has
abbrev pub FitsOpening : ℕ → Option Sizes → Type 0
FitsOpening n (Some sizes) = 8 * n ≤ sizes.packet
FitsOpening n None = Unit {0}

-- the bytes of a packet of a size came; or the stream ends before
abbrev pub TakesWhole : Ending → ℕ → List ℕ → List ℕ → Result (Unit {0}) StreamFault → Type 0
TakesWhole ending count bytes left (Ok done) = Unit {0}
TakesWhole ending count bytes left (Err fault) =
    OrNoMemory (λ f. (f ≡ cut_short ending) × (length (bytes ++ left) < count)) fault

-- all bytes of the stream came, and so it ends; or there are too many
abbrev pub TakesRest : Ending → List ℕ → List ℕ → Result Ending StreamFault → Type 0
TakesRest ending bytes left (Ok e) = (e ≡ ending) × (left ≡ [])
TakesRest ending bytes left (Err fault) =
    OrNoMemory
    (λ f. (f ≡ faults.ImpossibleSizes) × (longest_bytes < length (bytes ++ left))) fault

-- The bytes of a packet came, with its sizes where it gives none: those that the definition says of all that is left.
-- Or its bytes are not there.
abbrev pub TakesSized : Ending → ℕ → List ℕ → List ℕ → Option Sizes → Result Sizes StreamFault
    → Type 0
TakesSized ending first bytes left (Some told) (Ok sizes) = sizes ≡ told
TakesSized ending first bytes left (Some told) (Err fault) =
    OrNoMemory (λ f. (f ≡ cut_short ending) × (8 * length (bytes ++ left) < told.packet)) fault
TakesSized ending first bytes left None (Ok sizes) =
    sizes_checked None None ending (8 * length (bytes ++ left)) first ≡ Ok sizes
TakesSized ending first bytes left None (Err fault) =
    OrNoMemory
    (λ f. sizes_checked None None ending (8 * length (bytes ++ left)) first ≡ Err f) fault

-- a packet was opened; or memory ran out, or it has this fault
abbrev pub Opens : Shift → Known → Result (Opened Classes) StreamFault
    → Result OpenPacket StreamFault → Type 0
Opens shift known opened (Ok packet) = opened ≡ Ok (opened_of shift (values_of known) packet)
Opens shift known opened (Err fault) = OrNoMemory (λ f. opened ≡ Err f) fault
