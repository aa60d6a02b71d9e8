-- A reader as contracts see it.
use Rattle.std.specs.Prelude.{◌≡◌, ℕ, ◌+◌, ◌≤◌, ◌<◌, ◌⊎◌, Bool, List, [], ◌∷◌, Option, Some, None, IsSome}
use Rattle.ctf_class.specs.declared.trace.TraceClass.{TraceClass}
use Rattle.ctf_packet.specs.Classes.{Classes}
use Rattle.ctf_packet.specs.Items.{Run, Item, event, discarded, lost, stops, before}
use Rattle.ctf_packet.specs.declared.fault.StreamFault.{StreamFault}
use Rattle.ctf_packet.specs.declared.fault.StreamFault.TheVariants as faults
use Rattle.ctf_fetch.specs.Fetching.{longest_bytes, most_taken}
use Rattle.ctf_stream.specs.declared.texts.Texts.{Texts}

-- what the reader gives next
pub data Peeked : Type 0 where
  -- nothing was fetched yet, or the item that was here was given away
  start : Peeked
  item : Item Classes → Peeked
  ended : Peeked
  fault : StreamFault → Peeked

pub record Reader : Type 0 where
  pub trace : TraceClass
  -- the name of its stream
  pub name : List ℕ
  -- whether its source tells its bytes
  pub tells : Bool
  -- the event records that are given as texts, where they can
  pub writes : Texts
  pub ahead : Peeked
  -- what is to come after the current item, where the source tells its bytes
  pub after : Run Classes
  -- the bytes that the source has left
  pub left : List ℕ
  -- how many bytes were taken from it
  pub taken : ℕ
  -- the packet boundary at which the packet at hand begins, or the next one
  pub cut : ℕ
  -- the length of the packet that is held, in bytes
  pub held : ℕ
  -- how many items may still come, of any source
  pub room : ℕ

-- what is to come after what is current: nothing after an end or a fault
abbrev pub after_ahead : Peeked → ℕ → Run Classes → Run Classes
after_ahead start cut after = after
after_ahead (item x) cut after = after
after_ahead ended cut after = stops None cut
after_ahead (fault f) cut after = stops (Some f) cut

-- what is to come: what is current, and what comes after it
abbrev pub with_ahead : Peeked → Run Classes → Run Classes
with_ahead start run = run
with_ahead (item x) run = before (x ∷ []) run
with_ahead ended run = run
with_ahead (fault f) run = run

abbrev pub rest_of : Reader → Run Classes
rest_of r = after_ahead r.ahead r.cut r.after

abbrev pub coming : Reader → Run Classes
coming r = with_ahead r.ahead (rest_of r)

-- a run that a failed allocation ends
abbrev pub IsRefused : {C : Type 0} → Run C → Type 0
IsRefused run = (run.items ≡ []) × (run.fault ≡ Some faults.NoMemory)

-- this run, or none of it where an allocation failed
abbrev pub OrRefused : {C : Type 0} → Run C → Run C → Type 0
OrRefused run actual = (actual ≡ run) ⊎ IsRefused actual

-- the current item
abbrev pub item_ahead : Peeked → Option (Item Classes)
item_ahead start = None
item_ahead (item x) = Some x
item_ahead ended = None
item_ahead (fault f) = None

-- the current fault
abbrev pub fault_ahead : Peeked → Option StreamFault
fault_ahead start = None
fault_ahead (item x) = None
fault_ahead ended = None
fault_ahead (fault f) = Some f

abbrev pub HasItem : Peeked → Type 0
HasItem ahead = IsSome (item_ahead ahead)

-- the first item was fetched, or the end or a fault was met
abbrev pub IsFetched : Peeked → Type 0
IsFetched start = ⊥
IsFetched (item x) = Unit {0}
IsFetched ended = Unit {0}
IsFetched (fault f) = Unit {0}

-- nothing but this end or this fault comes from now on
abbrev pub IsLast : Peeked → Type 0
IsLast start = ⊥
IsLast (item x) = ⊥
IsLast ended = Unit {0}
IsLast (fault f) = Unit {0}

-- where the packet of an item ends, and how long it is, in bytes of the stream
abbrev pub packet_end : Item Classes → ℕ
packet_end (event e) = e.packet_end
packet_end (discarded gap) = gap.packet_end
packet_end (lost gap) = gap.packet_end

abbrev pub packet_length : Item Classes → ℕ
packet_length (event e) = e.packet_length
packet_length (discarded gap) = gap.packet_length
packet_length (lost gap) = gap.packet_length

-- How many bytes were taken and how many are held, of any source: where nothing is current, those to the end of the
-- packet that begins at the packet boundary, and that packet, or all before the boundary, and none; those to the end of
-- the packet that holds the current item, and that packet; at the end all before the boundary, and none; before a fault
-- at most a packet and a byte after the boundary, and none (own).
abbrev pub OnLine : Peeked → ℕ → ℕ → ℕ → Type 0
OnLine start taken cut held = (taken ≡ cut + held) × (held ≤ longest_bytes)
OnLine (item x) taken cut held =
    (taken ≡ packet_end x) × (held ≡ packet_length x) × (held ≤ longest_bytes)
OnLine ended taken cut held = (taken ≡ cut) × (held ≡ 0)
OnLine (fault f) taken cut held = (cut ≤ taken) × (taken ≤ cut + longest_bytes + 1) × (held ≡ 0)

abbrev pub IsOnLine : Reader → Type 0
IsOnLine r = OnLine r.ahead r.taken r.cut r.held × (r.taken ≤ most_taken)

-- at the end all bytes were taken
abbrev pub IsAllTaken : Peeked → List ℕ → Type 0
IsAllTaken start left = Unit {0}
IsAllTaken (item x) left = Unit {0}
IsAllTaken ended left = left ≡ []
IsAllTaken (fault f) left = Unit {0}

-- one item less may come
abbrev pub RoomTaken : Peeked → ℕ → ℕ → Type 0
RoomTaken start old new = new ≤ old
RoomTaken (item x) old new = new < old
RoomTaken ended old new = new ≡ old
RoomTaken (fault f) old new = new ≡ old
