-- Metadata packets (CTF 1.8.3, section 7.1).
use Rattle.std.specs.Prelude.{◌≡◌, ◌≢◌, ◌⊎◌, ℕ, ◌*◌, ◌/◌, ◌%◌, ◌<◌, ◌≤◌, Bool, true, not, ◌&&◌, ◌==◌, nat_lt, nat_le, if◌then◌else◌, List, [], ◌∷◌, ◌++◌, length, take, drop, slice_index, Option, Some, None, MatchOption}
use Rattle.std.specs.List.{flat_map}
use Rattle.std.specs.Str.{bytes_eq}
use Rattle.ctf_list.specs.Row.{AllStand}
use Rattle.byteorder.specs.Endian.{big_number, little_number}
use Rattle.tsdl_text.specs.declared.packet.HeaderOrder.{HeaderOrder}
use Rattle.tsdl_text.specs.declared.packet.HeaderOrder.TheVariants as orders
use Rattle.tsdl_text.specs.declared.packet.TheConstants.{HEADER_LEN, MOST_BYTES}
use Rattle.tsdl_text.specs.declared.fault.MetaFault.{MetaFault}
use Rattle.tsdl_text.specs.declared.fault.MetaFault.TheVariants as faults

-- ---- the header of a packet

-- the magic 0x75D11D57 in either order
abbrev pub magic : HeaderOrder → List ℕ
magic orders.Big = 0x75 ∷ 0xD1 ∷ 0x1D ∷ 0x57 ∷ []
magic orders.Little = 0x57 ∷ 0x1D ∷ 0xD1 ∷ 0x75 ∷ []

-- the number in the first four bytes
unfoldable pub word : HeaderOrder → List ℕ → ℕ
word orders.Big bytes = big_number 4 bytes
word orders.Little bytes = little_number 4 bytes

abbrev pub uuid : List ℕ → List ℕ
uuid bytes = take 16 (drop 4 bytes)

-- the sizes are in bits, and count the header
abbrev pub content_size : HeaderOrder → List ℕ → ℕ
content_size order bytes = word order (take 4 (drop 24 bytes))

abbrev pub packet_size : HeaderOrder → List ℕ → ℕ
packet_size order bytes = word order (take 4 (drop 28 bytes))

-- the text is neither compressed, nor encrypted, nor does it have a checksum
abbrev pub is_plain : List ℕ → Bool
is_plain bytes =
    slice_index bytes 32 == 0 && (slice_index bytes 33 == 0 && slice_index bytes 34 == 0)

abbrev pub is_version_1_8 : List ℕ → Bool
is_version_1_8 bytes = slice_index bytes 35 == 1 && slice_index bytes 36 == 8

-- Both sizes are whole bytes, the content has a header and ends in the packet, and the packet ends in
-- what is left.
unfoldable pub sizes_fit : HeaderOrder → List ℕ → Bool
sizes_fit order rest =
    let content = content_size order rest in
    let packet = packet_size order rest in
    content % 8 == 0
    && (packet % 8 == 0
    && (nat_le HEADER_LEN (content / 8)
    && (nat_le content packet && nat_le (packet / 8) (length rest))))

-- ---- good packets

pub record Packet : Type 0 where
  pub bytes : List ℕ
  pub content : List ℕ

-- a whole packet of this order and uuid, and its content, which begins after the header
pub record IsPacket (order : HeaderOrder) (id : List ℕ) (packet : Packet) : Type 0 where
  pub has_header : HEADER_LEN ≤ length packet.bytes
  pub has_magic : take 4 packet.bytes ≡ magic order
  pub plain : is_plain packet.bytes ≡ true
  pub version : is_version_1_8 packet.bytes ≡ true
  pub same_uuid : uuid packet.bytes ≡ id
  pub packet_size_is : packet_size order packet.bytes ≡ 8 * length packet.bytes
  pub content_end : ℕ
  pub content_size_is : content_size order packet.bytes ≡ 8 * content_end
  pub after_header : HEADER_LEN ≤ content_end
  pub within : content_end ≤ length packet.bytes
  pub content_is : packet.content ≡ drop HEADER_LEN (take content_end packet.bytes)

-- a whole packet of this order and uuid, whatever bytes follow it
abbrev pub Stands : HeaderOrder → List ℕ → Packet → List ℕ → Type 0
Stands order id packet after = IsPacket order id packet

abbrev pub bytes_of : List Packet → List ℕ
bytes_of packets = flat_map (λ packet. packet.bytes) packets

abbrev pub contents_of : List Packet → List ℕ
contents_of packets = flat_map (λ packet. packet.content) packets

-- good packets, one after the other, and then these bytes
abbrev pub AllPackets : HeaderOrder → List ℕ → List Packet → List ℕ → Type 0
AllPackets order id packets after =
    AllStand (λ packet. packet.bytes) (Stands order id) packets after

-- ---- metadata

-- the order of the magic in the first four bytes; without the magic the bytes are plain text
unfoldable pub order_of : List ℕ → Option HeaderOrder
order_of bytes =
    if bytes_eq (take 4 bytes) (magic orders.Big) then Some orders.Big
    else (if bytes_eq (take 4 bytes) (magic orders.Little) then Some orders.Little else None)

-- the text is the contents of packets, which one after the other are the bytes
pub record IsJoined (order : HeaderOrder) (bytes text : List ℕ) : Type 0 where
  pub packets : List Packet
  pub good : AllPackets order (uuid bytes) packets []
  pub whole : bytes_of packets ≡ bytes
  pub text_is : text ≡ contents_of packets

-- these bytes are metadata of this text
pub record MetaText (bytes text : List ℕ) : Type 0 where
  pub short : length bytes ≤ MOST_BYTES
  pub text_is : MatchOption (order_of bytes) (text ≡ bytes) (λ order. IsJoined order bytes text)

-- ---- faults

abbrev pub or_else : Option MetaFault → Option MetaFault → Option MetaFault
or_else (Some fault) other = Some fault
or_else None other = other

-- the first check that a header fails, but for the sizes
unfoldable pub header_fault : HeaderOrder → List ℕ → List ℕ → Option MetaFault
header_fault order id rest =
    if nat_lt (length rest) HEADER_LEN then Some faults.CutShort
    else (if not (bytes_eq (take 4 rest) (magic order)) then Some faults.WrongMagic
    else (if not (is_plain rest) then Some faults.SchemeUnsupported
    else (if not (is_version_1_8 rest) then Some faults.WrongVersion
    else (if not (bytes_eq (uuid rest) id) then Some faults.UuidDiffers
    else None))))

-- The first check that fails where a packet has to begin; none does where a good packet begins.
unfoldable pub first_fault : HeaderOrder → List ℕ → List ℕ → Option MetaFault
first_fault order id rest =
    or_else (header_fault order id rest)
    (if sizes_fit order rest then None else Some faults.CutShort)

-- after as many good packets as there are, bytes are left, and this is the first check that they fail
pub record IsBrokenAfter (order : HeaderOrder) (bytes : List ℕ) (fault : MetaFault) : Type 0 where
  pub packets : List Packet
  pub rest : List ℕ
  pub good : AllPackets order (uuid bytes) packets rest
  pub whole : bytes_of packets ++ rest ≡ bytes
  pub goes_on : rest ≢ []
  pub fails : first_fault order (uuid bytes) rest ≡ Some fault

-- these bytes are no metadata, and this is why: there are too many of them, or a packet is not good
abbrev pub MetaBroken : List ℕ → MetaFault → Type 0
MetaBroken bytes fault =
    ((MOST_BYTES < length bytes) × (fault ≡ faults.TooLong))
    ⊎ ((length bytes ≤ MOST_BYTES)
    × ((order : HeaderOrder) × (order_of bytes ≡ Some order) × IsBrokenAfter order bytes fault))

-- what a refusal says: nothing where an allocation failed
abbrev pub Refused : (MetaFault → Type 0) → MetaFault → Type 0
Refused broken faults.NoMemory = Unit {0}
Refused broken faults.CutShort = broken faults.CutShort
Refused broken faults.WrongMagic = broken faults.WrongMagic
Refused broken faults.SchemeUnsupported = broken faults.SchemeUnsupported
Refused broken faults.WrongVersion = broken faults.WrongVersion
Refused broken faults.UuidDiffers = broken faults.UuidDiffers
Refused broken faults.TooLong = broken faults.TooLong
Refused broken (faults.NoToken line) = ⊥

abbrev pub MetaRefused : List ℕ → MetaFault → Type 0
MetaRefused bytes fault = Refused (MetaBroken bytes) fault
