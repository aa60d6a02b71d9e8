-- Which members of a packet's header and context say something of the packet, and after which none sets the clock.
use Rattle.std.specs.Prelude.{◌≡◌, ℕ, Bool, false, List, [], ◌∷◌, ◌++◌, map, Option, codes}
use Rattle.std.specs.List.{All, list_any, position_from}
use Rattle.std.specs.Str.{bytes_eq}
use Rattle.ctf_class.specs.RoleNames.{role_name}
use Rattle.ctf_class.specs.declared.class.Class.{Class}
use Rattle.ctf_class.specs.declared.class.Kind.{Kind}
use Rattle.ctf_class.specs.declared.class.Kind as kinds
use Rattle.ctf_class.specs.declared.class.Kind.TheOpen.{Kind-F}
use Rattle.ctf_class.specs.declared.class.Kind.TheViews.{out-Kind}
use Rattle.ctf_class.specs.declared.class.Member.{Member}
use Rattle.ctf_class.specs.declared.front_class.RolePlaces.{RolePlaces}
use Rattle.ctf_class.specs.declared.integer.Integer.{Integer}
use Rattle.ctf_class.specs.declared.role.Role.TheVariants.{Magic, Uuid, StreamId, PacketSize, ContentSize, TimestampEnd, EventsDiscarded, SequenceNumber}

-- the members of a structure
abbrev pub members_of_kind : Kind-F Kind Class Member → List Member
members_of_kind (Kind-F.Structure members) = members
members_of_kind _ = []

abbrev pub members_of : Class → List Member
members_of class = members_of_kind (out-Kind class.kind)

-- the members of a packet context that say something of the packet and not of its events (CTF 1.8.3,
-- section 5.2)
abbrev pub packet_names : List (List ℕ)
packet_names =
    codes "packet_size" ∷ codes "content_size" ∷ codes "timestamp_begin" ∷ codes "timestamp_end"
    ∷ codes "events_discarded" ∷ codes "packet_seq_num" ∷ []

abbrev pub is_of_packet : List ℕ → Bool
is_of_packet name = list_any (bytes_eq name) packet_names

abbrev pub are_of_packet : List Member → List Bool
are_of_packet members = map (λ (member : Member). is_of_packet member.name) members

-- the index of the first member of a name
abbrev pub place_named : List ℕ → List Member → Option ℕ
place_named name members = position_from (λ (member : Member). bytes_eq member.name name) 0 members

-- the first member of each role's name is there
pub record ArePlaces (members : List Member) (places : RolePlaces) : Type 0 where
  pub magic : places.magic ≡ place_named (role_name Magic) members
  pub uuid : places.uuid ≡ place_named (role_name Uuid) members
  pub stream_id : places.stream_id ≡ place_named (role_name StreamId) members
  pub packet_size : places.packet_size ≡ place_named (role_name PacketSize) members
  pub content_size : places.content_size ≡ place_named (role_name ContentSize) members
  pub timestamp_end : places.timestamp_end ≡ place_named (role_name TimestampEnd) members
  pub events_discarded : places.events_discarded ≡ place_named (role_name EventsDiscarded) members
  pub sequence_number : places.sequence_number ≡ place_named (role_name SequenceNumber) members

-- a class is that of an integer that sets no clock
abbrev pub SetsNoClock : Class → Type 0
SetsNoClock class = (i : Integer) × (class.kind ≡ kinds.Integer i) × (i.is_moving ≡ false)

-- members are these first ones, and after them integers that set no clock
abbrev pub AreClockMembers : List Member → List Member → Type 0
AreClockMembers first members =
    (rest : List Member) × (members ≡ first ++ rest) × All (λ (m : Member). SetsNoClock m.class) rest
