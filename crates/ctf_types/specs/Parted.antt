-- What declarations give, by where it goes.
use Rattle.std.specs.Prelude.{◌≡◌, ℕ, ◌<◌, List, [], length, filter_map, get_or}
use Rattle.ctf_types.specs.declared.gather.TraceParts.{TraceParts}
use Rattle.ctf_types.specs.declared.linked.Linked.{Linked}
use Rattle.ctf_types.specs.declared.linked.Linked.TheVariants as linked
use Rattle.ctf_types.specs.Gathered.{header_in, heads_in, events_at}

-- the event's stream is one of so many
abbrev pub IsBelow : ℕ → Linked → Type 0
IsBelow count (linked.Event place e) = place < count
IsBelow count _ = Unit {0}

pub record IsParted (rows : List Linked) (parts : TraceParts) : Type 0 where
  pub headers : parts.headers ≡ filter_map header_in rows
  pub heads : parts.heads ≡ heads_in rows
  pub events : (j : ℕ) → j < length parts.events → get_or parts.events j [] ≡ events_at j rows
