-- What calls answer, in terms of the definitions.
use Rattle.std.specs.Prelude.{◌≡◌, ℕ, ◌+◌, ◌*◌, ◌/◌, ◌%◌, ◌<◌, ◌≤◌, true, false, ◌⊎◌, Option, Some, None, Result, Ok, Err}
use Rattle.ctf_packet.specs.Scopes.{longest}
use Rattle.ctf_packet.specs.Packets.{sizes_of, are_possible}
use Rattle.ctf_packet.specs.declared.packet.OpenPacket.{OpenPacket}
use Rattle.ctf_packet.specs.declared.sizes.Sizes.{Sizes}
use Rattle.ctf_packet.specs.declared.fault.StreamFault.{StreamFault}
use Rattle.ctf_packet.specs.declared.fault.StreamFault.TheVariants as faults

-- an answer, seen as what the definition gives
abbrev pub Exactly : {A B : Type 0} → (A → B) → Result A StreamFault → Result B StreamFault → Type 0
Exactly view (Ok x) r = r ≡ Ok (view x)
Exactly view (Err f) r = r ≡ Err f

-- an answer, seen as what the definition gives, or memory ran out
abbrev pub OrRefused : {A B : Type 0} → (A → B) → Result A StreamFault → Result B StreamFault
    → Type 0
OrRefused view (Ok x) r = r ≡ Ok (view x)
OrRefused view (Err f) r = (r ≡ Err f) ⊎ (f ≡ faults.NoMemory)

-- no size is given; the sizes given can be; or they can't, whatever is left
abbrev pub SizesTold : Option ℕ → Option ℕ → ℕ → ℕ → Result (Option Sizes) StreamFault → Type 0
SizesTold packet content rest end (Ok None) = (packet ≡ None) × (content ≡ None)
SizesTold packet content rest end (Ok (Some sizes)) =
    (sizes_of packet content rest ≡ sizes) × (are_possible sizes end ≡ true)
    × (((packet ≡ None) × (content ≡ None)) → ⊥)
SizesTold packet content rest end (Err f) =
    (f ≡ faults.ImpossibleSizes) × (are_possible (sizes_of packet content rest) end ≡ false)
    × (((packet ≡ None) × (content ≡ None)) → ⊥)

-- sizes of a packet whose context ends at a bit and whose bytes are among n
pub record Fitting (end n : ℕ) (s : Sizes) : Type 0 where
  pub some : 0 < s.packet
  pub whole : s.packet % 8 ≡ 0
  pub bounded : s.packet ≤ longest
  pub begun : end ≤ s.content
  pub inside : s.content ≤ s.packet
  pub there : s.packet ≤ 8 * n

-- a packet of these sizes at a place
pub record Placed (start first : ℕ) (sizes : Sizes) (packet : OpenPacket) : Type 0 where
  pub starts : packet.start ≡ start
  pub ends : packet.end ≡ start + sizes.packet / 8
  pub begins : packet.first ≡ first
  pub content : packet.content ≡ sizes.content
