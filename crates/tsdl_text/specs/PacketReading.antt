-- What reading a packet gives. Laws in proofs/ tie it to the definitions of `Packets`.
use Rattle.std.specs.Prelude.{◌≡◌, ℕ, ◌*◌, ◌≤◌, List, length, take}
use Rattle.tsdl_text.specs.declared.packet.TheConstants.{HEADER_LEN}
use Rattle.tsdl_text.specs.declared.packet.HeaderOrder.{HeaderOrder}
use Rattle.tsdl_text.specs.declared.fault.MetaFault.{MetaFault}
use Rattle.tsdl_text.specs.Packets.{content_size, packet_size, IsPacket, IsBrokenAfter, Refused}

-- the content ends at this place and the packet at that one
pub record HasEnds (order : HeaderOrder) (rest : List ℕ) (ends : ℕ × ℕ) : Type 0 where
  pub content_is : content_size order rest ≡ 8 * ends.0
  pub packet_is : packet_size order rest ≡ 8 * ends.1
  pub after_header : HEADER_LEN ≤ ends.0
  pub within_packet : ends.0 ≤ ends.1
  pub within : ends.1 ≤ length rest

-- a good packet of `len` bytes is at the beginning of these
pub record BeginsPacket (order : HeaderOrder) (id rest content : List ℕ) (len : ℕ) : Type 0 where
  pub good : IsPacket order id (record { bytes = take len rest; content = content })
  pub within : len ≤ length rest

-- what a refusal to join packets says
abbrev pub JoinRefused : HeaderOrder → List ℕ → MetaFault → Type 0
JoinRefused order bytes fault = Refused (IsBrokenAfter order bytes) fault
