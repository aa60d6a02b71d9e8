-- The items of several streams in one order, up to the first fault (own).
use Rattle.std.specs.Prelude.{◌≡◌, ℕ, zero, suc, ◌+◌, ◌≤◌, ◌<◌, ◌⊎◌, false, cond, nat_eq, List, [], ◌∷◌, ◌++◌, length, map, ℤ, Option, Some, None}
use Rattle.std.specs.List.{AllByRecursion}
use Rattle.ctf_packet.specs.Classes.{Classes}
use Rattle.ctf_packet.specs.Items.{Run, Item}
use Rattle.ctf_packet.specs.declared.fault.StreamFault.{StreamFault}
use Rattle.ctf_packet.specs.ItemTimes.{time_of}
use Rattle.ctf_stream.specs.Reader as reader
use Rattle.stream_laws.specs.Times.{is_before, NotBefore}
use Rattle.ctf_merge.specs.declared.fault.MergeFault.{MergeFault}
use Rattle.ctf_merge.specs.declared.fault.MergeFault.TheVariants.{Stream}

-- an item and the number of its stream
pub record Placed : Type 0 where
  pub number : ℕ
  pub item : Item Classes

-- a list of items of several streams, and the fault that ends it
pub record Merged : Type 0 where
  pub items : List Placed
  pub fault : Option MergeFault

-- ---- what it is, as a whole

-- the items of one stream, in their order
abbrev pub of_stream : ℕ → List Placed → List (Item Classes)
of_stream i [] = []
of_stream i (x ∷ xs) = cond (nat_eq x.number i) (x.item ∷ of_stream i xs) (of_stream i xs)

-- the run of one stream; of a number after the last one an empty one
abbrev pub run_at : ℕ → List (Run Classes) → Run Classes
run_at i [] = record { items = []; fault = None; at = 0 }
run_at zero (r ∷ rs) = r
run_at (suc i) (r ∷ rs) = run_at i rs

-- of two items at one time that of the lower stream comes first, and no item comes after a later one
abbrev pub IsPlacedBefore : Placed → Placed → Type 0
IsPlacedBefore x y =
    NotBefore (time_of x.item) (time_of y.item)
    × (is_before (time_of x.item) (time_of y.item) ≡ false → x.number ≤ y.number)

-- by time, none first, and then by stream
abbrev pub InOrder : List Placed → Type 0
InOrder [] = Unit {0}
InOrder (x ∷ xs) = AllByRecursion (IsPlacedBefore x) xs × InOrder xs

-- all items of all streams, each stream's in its order
pub record IsMerged (runs : List (Run Classes)) (all : List Placed) : Type 0 where
  pub each : (i : ℕ) → of_stream i all ≡ (run_at i runs).items
  pub in_order : InOrder all

-- The list up to the cut: the whole one where no stream has a fault; nothing where a faulty stream has no item, the
-- least of them being reported; else up to the last item of a faulty stream, after which each other faulty stream has
-- an item still.
pub data IsCut (runs : List (Run Classes)) (all : List Placed) : Merged → Type 0 where
  whole : ((i : ℕ) → (run_at i runs).fault ≡ None)
      → IsCut runs all (record { items = all; fault = None })
  at_once : (i : ℕ) (f : StreamFault) → (run_at i runs).fault ≡ Some f → (run_at i runs).items ≡ []
      → ((j : ℕ) (g : StreamFault) → j < i → (run_at j runs).fault ≡ Some g
      → (run_at j runs).items ≡ [] → ⊥)
      → IsCut runs all (record { items = []; fault = Some (Stream i f) })
  after : (first rest : List Placed) (last : Placed) (f : StreamFault) → all ≡ first ++ last ∷ rest
      → (run_at last.number runs).fault ≡ Some f
      → of_stream last.number rest ≡ []
      → ((j : ℕ) (g : StreamFault) → (run_at j runs).fault ≡ Some g
      → (j ≡ last.number) ⊎ (of_stream j rest ≡ [] → ⊥))
      → IsCut runs all (record { items = first ++ last ∷ []; fault = Some (Stream last.number f) })

-- ---- what it is, one item after the other

-- what a run begins with
abbrev pub head_by : List (Item Classes) → Option StreamFault → reader.Peeked
head_by (x ∷ xs) fault = reader.item x
head_by [] None = reader.ended
head_by [] (Some f) = reader.fault f

abbrev pub head_of : Run Classes → reader.Peeked
head_of run = head_by run.items run.fault

-- what comes first of several streams
pub data First : Type 0 where
  item : ℕ → Item Classes → First
  broken : ℕ → StreamFault → First
  nothing : First

-- what comes first of several streams, counted from one stream earlier
abbrev pub later : First → First
later (item i x) = item (suc i) x
later (broken i f) = broken (suc i) f
later nothing = nothing

-- An item or what the later streams have: a fault before it, and of two items the earlier; of two at one time the
-- first.
abbrev pub least : Item Classes → First → First
least x (item i y) = cond (is_before (time_of y) (time_of x)) (item i y) (item 0 x)
least x (broken i f) = broken i f
least x nothing = item 0 x

abbrev pub with_first : reader.Peeked → First → First
with_first reader.start rest = rest
with_first (reader.item x) rest = least x rest
with_first reader.ended rest = rest
with_first (reader.fault f) rest = broken 0 f

-- A fault without items before it is the first of all, at the least number; else the least item by time and then by
-- number.
abbrev pub first_of : List reader.Peeked → First
first_of [] = nothing
first_of (h ∷ hs) = with_first h (later (first_of hs))

abbrev pub after_first : List (Item Classes) → List (Item Classes)
after_first [] = []
after_first (x ∷ xs) = xs

abbrev pub without_first : Run Classes → Run Classes
without_first run = record { items = after_first run.items; fault = run.fault; at = run.at }

-- the runs without the first item of one of them
abbrev pub advance : ℕ → List (Run Classes) → List (Run Classes)
advance i [] = []
advance zero (r ∷ rs) = without_first r ∷ rs
advance (suc i) (r ∷ rs) = r ∷ advance i rs

-- nothing but this fault, or the end
abbrev pub ends : Option MergeFault → Merged
ends fault = record { items = []; fault = fault }

abbrev pub then : Placed → Merged → Merged
then x rest = record { items = x ∷ rest.items; fault = rest.fault }

abbrev pub count : List (Run Classes) → ℕ
count [] = 0
count (r ∷ rs) = length r.items + count rs

abbrev pub merged_from : First → (ℕ → Merged) → Merged
merged_from (item i x) rest = then (record { number = i; item = x }) (rest i)
merged_from (broken i f) rest = ends (Some (Stream i f))
merged_from nothing rest = ends None

-- `fuel` bounds the number of items
abbrev pub merged_by : ℕ → List (Run Classes) → Merged
merged_by zero runs = merged_from (first_of (map head_of runs)) (λ i. ends None)
merged_by (suc fuel) runs =
    merged_from (first_of (map head_of runs)) (λ i. merged_by fuel (advance i runs))

-- the items of all streams up to the cut, and the fault at it
unfoldable pub merged : List (Run Classes) → Merged
merged runs = merged_by (count runs) runs

-- no item of a merged list is before the one that precedes it, nor the first before this time
abbrev pub PlacedRise : Option ℤ → List Placed → Type 0
PlacedRise low [] = Unit {0}
PlacedRise low (x ∷ xs) = NotBefore low (time_of x.item) × PlacedRise (time_of x.item) xs
