-- The members of a body, one item at a time.
use Rattle.std.specs.Prelude.{List, ◌++◌, Ok}
use Rattle.ctf_meaning.specs.Written.{Item}
use Rattle.ctf_meaning.specs.Shapes.{Field}
use Rattle.ctf_meaning_steps.specs.Told.{Told, ◌>>=◌, unless}
use Rattle.ctf_meaning_steps.specs.Seen.{Seen}
use Rattle.ctf_meaning_steps.specs.Classes.{fields_told, field_faults}
use Rattle.ctf_meaning_steps.specs.Items.{item_told}

-- the names of a body and its members, after an item
abbrev pub member_told : Seen → Seen × List Field → Item → Told (Seen × List Field)
member_told outer before i =
    item_told outer before.0 i
    >>= λ made.
    unless (field_faults (fields_told i made.shape))
    (Ok (made.own, before.1 ++ fields_told i made.shape))

-- the names of a block, after a declaration of names
abbrev pub names_told : Seen → Seen → Item → Told Seen
names_told outer own i = item_told outer own i >>= λ made. Ok made.own
