-- The ids of the events before.
use Rattle.std.specs.Prelude.{◌≡◌, ℕ, ◌+◌, ◌*◌, ◌^◌, ◌<◌, Bool, List, take}
use Rattle.std.specs.List.{list_any}
use Rattle.std.specs.Ordering.{nat_cmp}
use Rattle.std.specs.BTreeSet.{contains}
use Rattle.ctf_meaning.specs.Written.{Declaration}
use Rattle.ctf_meaning.specs.Streams.{is_event}
use Rattle.ctf_types.specs.declared.ids.Ids.{Ids}

-- an event of this stream has this id
abbrev pub has : Ids → ℕ → ℕ → Bool
has ids stream id = contains nat_cmp ids.keys (stream * 2 ^ 64 + id)

-- the ids are those of the events among the first declarations
abbrev pub AreIds : List Declaration → ℕ → Ids → Type 0
AreIds text number ids =
    (stream id : ℕ) → id < 2 ^ 64
    → has ids stream id ≡ list_any (is_event text stream id) (take number text)
