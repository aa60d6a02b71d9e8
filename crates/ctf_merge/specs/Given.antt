-- Items that a merge gives by value.
use Rattle.std.specs.Prelude.{◌≡◌, ◌≢◌, ℕ, ◌<◌, ◌≤◌, ◌⊎◌, [], Option, Some, None, Result, Ok, Err}
use Rattle.ctf_packet.specs.declared.fault.StreamFault.{StreamFault}
use Rattle.ctf_packet.specs.declared.fault.StreamFault.TheVariants as faults
use Rattle.ctf_stream.specs.Owned.{item_of, IsOf}
use Rattle.ctf_stream.specs.Reader as reader
use Rattle.ctf_stream.specs.declared.owned.OwnedItem.{OwnedItem}
use Rattle.ctf_merge.specs.Merged.{Merged, First, item, broken, nothing, ends, then}
use Rattle.ctf_merge.specs.Merges.{Merge, first_now, MergedOrRefused, IsRefusal, IsNext}
use Rattle.ctf_merge.specs.declared.fault.MergeFault.{MergeFault}
use Rattle.ctf_merge.specs.declared.fault.MergeFault.TheVariants.{Stream}

-- The first item that was to come is given, and the rest is to come; or nothing was to come; or the fault was, or an
-- allocation failed for the item, and then nothing comes.
abbrev pub Gives : Merged → Merged → Result (Option OwnedItem) MergeFault → Type 0
Gives old new (Ok (Some x)) =
    (number : ℕ) × (end : ℕ) × (length : ℕ) × (rest : Merged)
    × (old ≡ then (record { number = number; item = item_of x end length }) rest)
    × MergedOrRefused rest new
Gives old new (Ok None) = (old ≡ ends None) × (new ≡ ends None)
Gives old new (Err f) =
    ((old ≡ ends (Some f)) ⊎ ((old.items ≢ []) × IsRefusal f)) × (new ≡ ends None)

-- this is the item that comes next, of the trace class or with the name of its stream
pub record IsGiven (m : Merge) (x : OwnedItem) : Type 0 where
  pub number : ℕ
  pub it : IsNext m number
  pub end : ℕ
  pub length : ℕ
  pub same : it.next ≡ item_of x end length
  pub of : IsOf it.front.trace it.front.name x

-- the current item of a reader is given, unless an allocation failed
abbrev pub GivesFront : reader.Peeked → Result (Option OwnedItem) StreamFault → Type 0
GivesFront ahead (Ok (Some x)) =
    (end : ℕ) × (length : ℕ) × (ahead ≡ reader.item (item_of x end length))
GivesFront ahead (Ok None) = ⊥
GivesFront ahead (Err f) = f ≡ faults.NoMemory

-- the current fault is reported, or an allocation that failed for the current item
abbrev pub IsTold : First → MergeFault → Type 0
IsTold (item i x) f = f ≡ Stream i faults.NoMemory
IsTold (broken i g) f = f ≡ Stream i g
IsTold nothing f = ⊥

-- what was current is given, of any sources
abbrev pub GivesFirst : Merge → Result (Option OwnedItem) MergeFault → Type 0
GivesFirst m (Ok (Some x)) = IsGiven m x
GivesFirst m (Ok None) = first_now m ≡ nothing
GivesFirst m (Err f) = IsTold (first_now m) f

-- an item that is given takes room
abbrev pub GivesRoom : ℕ → ℕ → Result (Option OwnedItem) MergeFault → Type 0
GivesRoom old new (Ok (Some x)) = new < old
GivesRoom old new (Ok None) = new ≡ old
GivesRoom old new (Err f) = new ≤ old
