-- A merge as contracts see it.
use Rattle.std.specs.Prelude.{◌≡◌, ℕ, zero, suc, ◌+◌, ◌≤◌, ◌<◌, ◌⊎◌, Bool, cond, IsTrue, List, [], ◌∷◌, length, map, set, ℤ, Option, Some, None, slice_get}
use Rattle.std.specs.List.{AllByRecursion, AllZip}
use Rattle.ctf_class.specs.declared.trace.TraceClass.{TraceClass}
use Rattle.ctf_packet.specs.Classes.{Classes}
use Rattle.ctf_packet.specs.Items.{Item}
use Rattle.ctf_packet.specs.declared.fault.StreamFault.TheVariants as faults
use Rattle.ctf_packet.specs.ItemTimes.{time_of}
use Rattle.ctf_stream.specs.Reader as reader
use Rattle.ctf_stream.specs.declared.texts.Texts.{Texts}
use Rattle.ctf_stream.specs.Reader.{Reader, coming, rest_of, IsFetched, IsOnLine, IsAllTaken, OrRefused}
use Rattle.stream_laws.specs.Times.{NotBefore, Rises}
use Rattle.ctf_merge.specs.Merged.{Merged, Placed, First, item, broken, nothing, first_of, ends, then, merged, PlacedRise}
use Rattle.ctf_merge.specs.declared.fault.MergeFault.{MergeFault}
use Rattle.ctf_merge.specs.declared.fault.MergeFault.TheVariants.{Stream, NoMemory}

pub record Merge : Type 0 where
  pub readers : List Reader
  -- its fault was gone past
  pub over : Bool

-- what is to come: the merged list of what is to come of each reader; nothing after the fault
abbrev pub coming_of : Merge → Merged
coming_of m = cond m.over (ends None) (merged (map coming m.readers))

-- each source tells its bytes
abbrev pub EachTells : List Reader → Type 0
EachTells readers = AllByRecursion (λ r. IsTrue r.tells) readers

-- each reader has taken no more than the current item needs
abbrev pub EachOnLine : List Reader → Type 0
EachOnLine readers = AllByRecursion IsOnLine readers

-- at the end of a stream all its bytes were taken
abbrev pub EachAllTaken : List Reader → Type 0
EachAllTaken readers = AllByRecursion (λ r. IsAllTaken r.ahead r.left) readers

-- each reader has its first item as the current one, or its end or a fault
abbrev pub EachFetched : List Reader → Type 0
EachFetched readers = AllByRecursion (λ r. IsFetched r.ahead) readers

-- the times of what is to come of each reader don't fall
abbrev pub EachRises : List Reader → Type 0
EachRises readers = AllByRecursion (λ r. Rises None (coming r).items) readers

-- no item is to come, where each source tells its bytes
abbrev pub NoItemComes : Merge → Type 0
NoItemComes m = EachTells m.readers → (coming_of m).items ≡ []

-- the times of what is to come don't fall
abbrev pub ComingRises : Merge → Type 0
ComingRises m = PlacedRise None (coming_of m).items

-- how many items may still come, of any sources
abbrev pub room_of : List Reader → ℕ
room_of [] = 0
room_of (r ∷ rs) = r.room + room_of rs

-- the names of the streams
abbrev pub names_of : List Reader → List (List ℕ)
names_of readers = map (λ r. r.name) readers

-- the classes of the traces that the streams are of
abbrev pub traces_of : List Reader → List TraceClass
traces_of readers = map (λ r. r.trace) readers

-- the event records of the streams that are given as texts, where they can
abbrev pub writes_of : List Reader → List Texts
writes_of readers = map (λ r. r.writes) readers

-- how many bytes of a stream were taken or are left
abbrev pub given_by : Reader → ℕ
given_by r = r.taken + length r.left

-- how many of each stream
abbrev pub given_of : List Reader → List ℕ
given_of readers = map given_by readers

-- this fault is out of memory
abbrev pub IsRefusal : MergeFault → Type 0
IsRefusal (Stream number fault) = fault ≡ faults.NoMemory
IsRefusal NoMemory = Unit {0}

-- this list, or none of it where an allocation failed
abbrev pub MergedOrRefused : Merged → Merged → Type 0
MergedOrRefused m actual =
    (actual ≡ m)
    ⊎ ((actual.items ≡ []) × ((f : MergeFault) × (actual.fault ≡ Some f) × IsRefusal f))

-- What was current is gone past: an item, or the fault, after which nothing comes.
pub record GoesOn (old new : Merged) : Type 0 where
  pub after_item : (x : Placed) (rest : Merged) → old ≡ then x rest → MergedOrRefused rest new
  pub after_fault : old.items ≡ [] → new ≡ ends None

-- the number of the stream of the current item
abbrev pub number_in : First → Option ℕ
number_in (item i x) = Some i
number_in (broken i f) = None
number_in nothing = None

-- the current fault
abbrev pub fault_in : First → Option MergeFault
fault_in (item i x) = None
fault_in (broken i f) = Some (Stream i f)
fault_in nothing = None

abbrev pub first_now : Merge → First
first_now m = cond m.over nothing (first_of (map (λ r. r.ahead) m.readers))

-- what comes first was fetched, and what is to come is the same, unless an allocation failed
pub record Fetched (old new : Reader) : Type 0 where
  pub told : IsTrue old.tells → OrRefused (coming old) (coming new)
  pub fetched : IsFetched new.ahead
  pub tells : IsTrue old.tells → IsTrue new.tells
  pub name : new.name ≡ old.name
  pub trace : new.trace ≡ old.trace
  pub writes : new.writes ≡ old.writes
  pub counted : IsTrue old.tells → new.taken + length new.left ≡ old.taken + length old.left
  pub on_line : IsOnLine old → IsOnLine new
  pub all_taken : IsTrue old.tells → IsAllTaken old.ahead old.left → IsAllTaken new.ahead new.left
  pub room : new.room ≤ old.room

abbrev pub EachIsFetched : List Reader → List Reader → Type 0
EachIsFetched old new = AllZip Fetched old new

-- the first readers were fetched, and the others are the same
abbrev pub FetchedUpTo : ℕ → List Reader → List Reader → Type 0
FetchedUpTo zero old new = new ≡ old
FetchedUpTo (suc i) [] [] = Unit {0}
FetchedUpTo (suc i) [] (s ∷ ss) = ⊥
FetchedUpTo (suc i) (r ∷ rs) [] = ⊥
FetchedUpTo (suc i) (r ∷ rs) (s ∷ ss) = Fetched r s × FetchedUpTo i rs ss

-- a current item is not before this time
abbrev pub AheadNotBefore : Option ℤ → reader.Peeked → Type 0
AheadNotBefore low reader.start = Unit {0}
AheadNotBefore low (reader.item x) = NotBefore low (time_of x)
AheadNotBefore low reader.ended = Unit {0}
AheadNotBefore low (reader.fault f) = Unit {0}

-- no current item of a reader is before this time
abbrev pub EachNotBefore : Option ℤ → List Reader → Type 0
EachNotBefore low readers = AllByRecursion (λ r. AheadNotBefore low r.ahead) readers

-- The item that comes next is the current one of the reader of this number: of any sources it is that of the least
-- turn, and where they tell their bytes the first one to come.
pub record IsNext (m : Merge) (number : ℕ) : Type 0 where
  pub front : Reader
  pub next : Item Classes
  pub rest : Merged
  pub at : slice_get m.readers number ≡ Some front
  pub ahead : front.ahead ≡ reader.item next
  pub first : first_now m ≡ item number next
  pub least : EachNotBefore (time_of next) m.readers
  pub coming : EachTells m.readers
      → coming_of m ≡ then (record { number = number; item = next }) rest

-- an item that is left took room
abbrev pub RoomLeft : First → ℕ → ℕ → Type 0
RoomLeft (item i x) old new = new < old
RoomLeft (broken i f) old new = new ≡ old
RoomLeft nothing old new = new ≡ old

-- The reader of this number has gone past its current item: what came after that is to come, unless an allocation
-- failed. Each other reader is as it was.
pub record LeavesOne (number : ℕ) (old new : List Reader) : Type 0 where
  pub before : Reader
  pub after : Reader
  pub left : Item Classes
  pub at : slice_get old number ≡ Some before
  pub ahead : before.ahead ≡ reader.item left
  pub others : new ≡ set old number after
  pub fetched : IsFetched after.ahead
  pub goes_on : IsTrue before.tells → OrRefused (rest_of before) (coming after)

-- the reader of the current item has gone past it; where there is none, each reader is as it was
abbrev pub LeavesFront : First → List Reader → List Reader → Type 0
LeavesFront (item i x) old new = LeavesOne i old new
LeavesFront (broken i f) old new = new ≡ old
LeavesFront nothing old new = new ≡ old

-- what is to come of each reader is what was to come of it, unless an allocation failed
abbrev pub EachComes : List Reader → List Reader → Type 0
EachComes old new = AllZip (λ r s. IsTrue r.tells → OrRefused (coming r) (coming s)) old new
