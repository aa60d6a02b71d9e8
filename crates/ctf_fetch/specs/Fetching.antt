-- What is given where a packet is fetched at a packet boundary.
use Rattle.std.specs.Prelude.{◌≡◌, ℕ, ◌+◌, ◌*◌, ◌^◌, ◌≤◌, ◌<◌, ◌⊎◌, List, [], length, Option, Some, None, Result, Ok, Err}
use Rattle.ctf_bits.specs.declared.source.Ending.{Ending}
use Rattle.ctf_clock.specs.declared.moment.Moment.{Moment}
use Rattle.ctf_clock.specs.declared.moment.Shift.{Shift}
use Rattle.ctf_decode.specs.Known.{Known}
use Rattle.ctf_packet.specs.Classes.{Classes, TraceForm, stream_form}
use Rattle.ctf_packet.specs.Packets.{Opened, reached_after}
use Rattle.ctf_packet.specs.Items.{Run, stops, from_packet, from_bytes}
use Rattle.ctf_packet.specs.Views.{values_of, packet_values, opened_of}
use Rattle.ctf_packet.specs.declared.packet.OpenPacket.{OpenPacket}
use Rattle.ctf_packet.specs.declared.fault.StreamFault.{StreamFault}
use Rattle.ctf_packet.specs.declared.fault.StreamFault.TheVariants as faults

-- the longest packet, in bytes (own)
abbrev pub longest_bytes : ℕ
longest_bytes = 2 ^ 28

-- how many bytes may be taken of a stream, at the most: a packet that begins at the longest stream's end, and one byte
-- (own)
abbrev pub most_taken : ℕ
most_taken = 2 ^ 60 + 2 ^ 28 + 1

-- what follows a packet at whose end the clock came so far
abbrev pub after_packet : TraceForm Classes → Ending → Opened Classes → List ℕ → Option Moment
    → Run Classes
after_packet trace ending packet left clock =
    from_bytes trace ending (Some (reached_after packet clock)) packet.end left

-- memory ran out, or this holds of a fault
abbrev pub OrNoMemory : (StreamFault → Type 0) → StreamFault → Type 0
OrNoMemory P fault = (fault ≡ faults.NoMemory) ⊎ P fault

-- a packet was fetched, and so its items come next; or the stream ends; or memory ran out, or this is its fault
abbrev pub Fetches : Shift → Known → TraceForm Classes → Ending → ℕ → Run Classes → List ℕ
    → List ℕ → Result (Option OpenPacket) StreamFault → Type 0
Fetches shift known trace ending at run bytes left (Ok (Some packet)) =
    let opened = opened_of shift (packet_values (values_of known)) packet in
    run ≡ from_packet opened bytes (after_packet trace ending opened left)
Fetches shift known trace ending at run bytes left (Ok None) = (run ≡ stops None at) × (left ≡ [])
Fetches shift known trace ending at run bytes left (Err fault) =
    OrNoMemory (λ f. run ≡ stops (Some f) at) fault

-- a packet that begins at a packet boundary and whose bytes are these
pub record FetchedAt (at : ℕ) (bytes : List ℕ) (shift : Shift) (packet : OpenPacket) : Type 0 where
  pub starts : packet.start ≡ at
  pub ends : packet.end ≡ at + length bytes
  pub some : 0 < length bytes
  pub bounded : length bytes ≤ longest_bytes
  pub begun : packet.first ≤ packet.content
  pub inside : packet.content ≤ 8 * length bytes
  pub line : packet.timeline ≡ (stream_form shift packet.stream.now).line

-- of any source: a packet was fetched at a packet boundary, or no byte came
abbrev pub FetchesAt : ℕ → List ℕ → Shift → Result (Option OpenPacket) StreamFault → Type 0
FetchesAt at bytes shift (Ok (Some packet)) = FetchedAt at bytes shift packet
FetchesAt at bytes shift (Ok None) = bytes ≡ []
FetchesAt at bytes shift (Err fault) = Unit {0}
