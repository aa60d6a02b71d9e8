-- The item of several streams that comes next, by reference.
use Rattle.std.specs.Prelude.{◌≡◌, ℕ, Option, Some, None}
use Rattle.ctf_stream.specs.Reader as reader
use Rattle.ctf_stream.specs.Shown.{Tells, IsAsked}
use Rattle.ctf_stream.specs.declared.item.CurrentItem.{CurrentItem}
use Rattle.ctf_merge.specs.Merges.{Merge, IsNext, first_now, number_in}

-- this is the item that comes next: with its values, or the text of an event record where its reader was asked for
-- texts, or the clock alone of one before those
pub record IsHead (m : Merge) (x : CurrentItem) : Type 0 where
  pub number : ℕ
  pub it : IsNext m number
  pub same : Tells it.front.trace it.front.name (reader.item it.next) (Some x)
  pub asked : IsAsked it.front.writes x

-- the item that comes next is shown; or none does, since a fault comes next, or it is the end
abbrev pub ShowsHead : Merge → Option CurrentItem → Type 0
ShowsHead m (Some x) = IsHead m x
ShowsHead m None = number_in (first_now m) ≡ None
