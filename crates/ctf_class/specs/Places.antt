-- Where items of a list are.
use Rattle.std.specs.Prelude.{◌≡◌, ◌==◌, ℕ, List, Option, Some, None, get_or, length, nat_lt, if◌then◌else◌}
use Rattle.std.specs.List.{position_from}
use Rattle.std.specs.Ordering.{nat_cmp}
use Rattle.std.specs.BTreeMap.{get}
use Rattle.ctf_class.specs.declared.sorted.SortedPlaces.{SortedPlaces}
use Rattle.ctf_class.specs.declared.indexed.Places.{Places}
use Rattle.ctf_class.specs.declared.indexed.Places.TheVariants.{Counted, Sorted}

-- the place that is kept for a number
abbrev pub sorted_place : SortedPlaces → ℕ → Option ℕ
sorted_place places id =
    if nat_lt id (length places.near) then get_or places.near id None else get nat_cmp places.all id

-- the place that is kept for a number, among so many items
abbrev pub place_of : Places → ℕ → ℕ → Option ℕ
place_of Counted count id = if nat_lt id count then Some id else None
place_of (Sorted places) count id = sorted_place places id

-- for each number the place of its first item is kept
pub record FindsFirst {T : Type 0} (id_of : T → ℕ) (items : List T) (places : Places) : Type 0 where
  pub firsts : (id : ℕ)
      → place_of places (length items) id ≡ position_from (λ item. id_of item == id) 0 items
