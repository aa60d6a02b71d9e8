-- A reader's parts, as contracts see the whole.
use Rattle.std.specs.Prelude.{◌≡◌, ℕ, ◌+◌, ◌≤◌, [], Option, Some, None, IsSome}
use Rattle.ctf_stream.specs.Coming.{item_in}
use Rattle.ctf_fetch.specs.Fetching.{longest_bytes, most_taken}
use Rattle.ctf_stream.specs.ReadState.{Stands, HasShared, HoldsIn}
use Rattle.ctf_stream.specs.Reader.{Peeked, start, item, ended, fault}
use Rattle.ctf_stream.specs.declared.packet.PacketReader.{PacketReader}
use Rattle.ctf_stream.specs.declared.packet.PacketItem.{PacketItem}
use Rattle.ctf_stream.specs.declared.read_state.ReadState.{ReadState}
use Rattle.ctf_stream.specs.declared.reader.ReaderHead.{ReaderHead}
use Rattle.ctf_stream.specs.declared.reader.ReaderHead.TheVariants as heads

-- the current item is one of the packet at hand; without one there is none
abbrev pub item_at : ReadState → Option PacketReader → PacketItem → Peeked
item_at c (Some p) front = item (item_in c.cut.shift c.scopes c.buffer p front)
item_at c None front = start

abbrev pub ahead_of : ReadState → ReaderHead → Peeked
ahead_of c heads.Start = start
ahead_of c (heads.Item front) = item_at c c.packet front
ahead_of c heads.Ended = ended
ahead_of c (heads.Fault f) = fault f

-- there is one current item
abbrev pub room_ahead : ReaderHead → ℕ
room_ahead heads.Start = 0
room_ahead (heads.Item front) = 1
room_ahead heads.Ended = 0
room_ahead (heads.Fault f) = 0

-- the packet at hand, whose text was made, holds the current item, which has its values, or whose text was written, or
-- which was passed over, or held the one before; at the end and after a fault nothing is held
abbrev pub IsStanding : ReadState → ReaderHead → Type 0
IsStanding c heads.Start = Stands c × HasShared c
IsStanding c (heads.Item front) = Stands c × HasShared c × IsSome c.packet × HoldsIn c c.packet front
IsStanding c heads.Ended = Stands c × (c.packet ≡ None)
IsStanding c (heads.Fault f) =
    (c.buffer ≡ []) × (c.cut.at ≤ c.taken) × (c.taken ≤ c.cut.at + longest_bytes + 1)
    × (c.taken ≤ most_taken)
