-- The packet that holds an item.
use Rattle.std.specs.Prelude.{◌≡◌, ℕ, ◌-◌, ◌<◌, ◌≤◌, Bool, true, false, List, length, drop, None}
use Rattle.ctf_bits.specs.declared.source.Ending.{Ending}
use Rattle.ctf_bits.specs.declared.source.Ending.TheVariants.{Clean}
use Rattle.ctf_packet.specs.Classes.{TraceForm}
use Rattle.ctf_packet.specs.Items.{Item, event, discarded, lost}
use Rattle.ctf_packet_demand.specs.Wants.{Want, more, whole, rest, faulty, wanted}

-- where the packet of an item ends in its stream, and how long it is, in bytes
abbrev pub packet_end : {C : Type 0} → Item C → ℕ
packet_end (event e) = e.packet_end
packet_end (discarded g) = g.packet_end
packet_end (lost g) = g.packet_end

abbrev pub packet_length : {C : Type 0} → Item C → ℕ
packet_length (event e) = e.packet_length
packet_length (discarded g) = g.packet_length
packet_length (lost g) = g.packet_length

-- where it begins
abbrev pub packet_start : {C : Type 0} → Item C → ℕ
packet_start x = packet_end x - packet_length x

-- all that is left of the stream is asked for
abbrev pub is_rest : {C : Type 0} → Want C → Bool
is_rest (more bits) = false
is_rest (whole begun sizes) = false
is_rest (rest begun) = true
is_rest (faulty fault) = false

-- Whether the packet of an item is the rest of its stream: its context gives neither its size nor that of its content
-- (CTF 1.8.3, section 5.2). It is looked at as a first packet, since those before it settle only whether its stream
-- class is the right one.
abbrev pub is_in_rest : {C : Type 0} → TraceForm C → List ℕ → Item C → Bool
is_in_rest trace bytes x = is_rest (wanted trace None (drop (packet_start x) bytes))

-- The packet of an item has a byte at least, and all of its bytes are there. Where it is the rest of the stream, this
-- ends with it, and cleanly.
pub record IsHeld {C : Type 0} (trace : TraceForm C) (ending : Ending) (bytes : List ℕ) (x : Item C)
    : Type 0 where
  pub some : packet_start x < packet_end x
  pub there : packet_end x ≤ length bytes
  pub last : is_in_rest trace bytes x ≡ true → (ending ≡ Clean) × (packet_end x ≡ length bytes)
