-- The names by which members of a packet's header and context say something of the packet.
use Rattle.std.specs.Prelude.{ℕ, List, codes}
use Rattle.ctf_class.specs.declared.role.Role.{Role}
use Rattle.ctf_class.specs.declared.role.Role.TheVariants.{Magic, Uuid, StreamId, PacketSize, ContentSize, TimestampEnd, EventsDiscarded, SequenceNumber}

-- CTF 1.8.3, section 5
abbrev pub role_name : Role → List ℕ
role_name Magic = codes "magic"
role_name Uuid = codes "uuid"
role_name StreamId = codes "stream_id"
role_name PacketSize = codes "packet_size"
role_name ContentSize = codes "content_size"
role_name TimestampEnd = codes "timestamp_end"
role_name EventsDiscarded = codes "events_discarded"
role_name SequenceNumber = codes "packet_seq_num"
