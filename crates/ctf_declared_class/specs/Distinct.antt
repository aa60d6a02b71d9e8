-- Members that have different names.
use Rattle.std.specs.Prelude.{List, map, Ok}
use Rattle.ctf_meaning.specs.declared.fault.ResolveFault.TheVariants.{DeclaredTwice}
use Rattle.ctf_meaning.specs.Name.{same_word}
use Rattle.ctf_meaning.specs.Own.{has_twins}
use Rattle.ctf_meaning.specs.Settings.{when}
use Rattle.ctf_meaning.specs.Shapes.{Members, Field, members_from}
use Rattle.ctf_meaning_steps.specs.Told.{Told, unless}

-- the members, where no two have one name
abbrev pub members_told : List Field → Told Members
members_told fields =
    unless (when (has_twins same_word (map (λ f. f.name) fields)) DeclaredTwice)
    (Ok (members_from fields))
