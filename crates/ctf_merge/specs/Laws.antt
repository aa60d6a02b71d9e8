-- Laws of the merged list.
use Rattle.std.specs.Prelude.{◌≡◌, ℕ, List, map, Option, Some, None, ℤ}
use Rattle.std.specs.List.{AllByRecursion}
use Rattle.ctf_packet.specs.Classes.{Classes}
use Rattle.ctf_packet.specs.Items.{Run, Item}
use Rattle.ctf_packet.specs.declared.fault.StreamFault.{StreamFault}
use Rattle.ctf_packet.specs.ItemTimes.{time_of}
use Rattle.stream_laws.specs.Times.{NotBefore, Rises}
use Rattle.ctf_merge.specs.Merged.{item, broken, nothing, first_of, head_of, advance, ends, then, merged, Placed, PlacedRise, IsMerged, IsCut}
use Rattle.ctf_merge.specs.declared.fault.MergeFault.TheVariants.{Stream}

-- The merged list begins with the first item and goes on with the merged list of what is left; or it ends with the
-- fault that comes first; or there is nothing.
pub record MergeGoesOn : Type 0 where
  pub goes_on : (runs : List (Run Classes)) (number : ℕ) (x : Item Classes)
      → first_of (map head_of runs) ≡ item number x
      → merged runs ≡ then (record { number = number; item = x }) (merged (advance number runs))
  pub breaks : (runs : List (Run Classes)) (number : ℕ) (f : StreamFault)
      → first_of (map head_of runs) ≡ broken number f → merged runs ≡ ends (Some (Stream number f))
  pub stops : (runs : List (Run Classes)) → first_of (map head_of runs) ≡ nothing
      → merged runs ≡ ends None

-- where the times of no stream fall, those of the merged list don't
abbrev pub MergeRises : Type 0
MergeRises =
    (low : Option ℤ) (runs : List (Run Classes)) → AllByRecursion (λ r. Rises low r.items) runs
    → PlacedRise low (merged runs).items

-- of items whose times rise from one, none is before it
abbrev pub NoneIsBefore : Type 0
NoneIsBefore =
    (low : Option ℤ) (items : List Placed) → PlacedRise low items
    → AllByRecursion (λ x. NotBefore low (time_of x.item)) items

-- The merged list is the one of all items of all streams in their order, up to the cut, where the times of no stream
-- fall.
abbrev pub MergeIsCut : Type 0
MergeIsCut =
    (low : Option ℤ) (runs : List (Run Classes)) → AllByRecursion (λ r. Rises low r.items) runs
    → (all : List Placed) × IsMerged runs all × IsCut runs all (merged runs)
