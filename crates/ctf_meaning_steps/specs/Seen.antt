-- The names that a class sees, and what each of them stands for. (CTF 1.8.3, section 7.3.1.)
use Rattle.std.specs.Prelude.{if◌then◌else◌, List, [], ◌∷◌, nat_lt, Option, Some, None, Ok, is_some}
use Rattle.std.specs.Option.{option_or}
use Rattle.ctf_meaning.specs.declared.fault.ResolveFault.{ResolveFault}
use Rattle.ctf_meaning.specs.declared.fault.ResolveFault.TheVariants.{DeclaredTwice, TooDeep}
use Rattle.ctf_meaning.specs.Name.{Name, same_name}
use Rattle.ctf_meaning.specs.Parts.{Given}
use Rattle.ctf_meaning.specs.Settings.{when}
use Rattle.ctf_meaning.specs.Shapes.{Shape, arrays, depth_of}
use Rattle.ctf_meaning.specs.Own.{most_deep}
use Rattle.ctf_meaning_steps.specs.Told.{Told, unless}

-- what each name stands for, where it stands for a class
abbrev pub Seen : Type 0
Seen = Name → Option Shape

abbrev pub nothing_seen : Seen
nothing_seen name = None

-- the names of a block, and after them those around it
abbrev pub within : Seen → Seen → Seen
within own outer name = option_or (own name) (outer name)

-- one name more
abbrev pub with_name : Seen → Name → Shape → Seen
with_name own name shape other = if same_name name other then Some shape else own other

-- a class deeper than the limit
abbrev pub depth_fault : Shape → List ResolveFault
depth_fault shape = when (nat_lt most_deep (depth_of shape)) TooDeep

-- The names of a block with those that a class is given: each is new, and with its arrays no class is too deep.
abbrev pub declare_each : Seen → Shape → List Given → Told Seen
declare_each own shape [] = Ok own
declare_each own shape (given ∷ more) =
    unless (when (is_some (own given.name)) DeclaredTwice)
    (unless (depth_fault (arrays given.lengths shape))
    (declare_each (with_name own given.name (arrays given.lengths shape)) shape more))

abbrev pub declare : Seen → Shape → List Given → Told Seen
declare own shape given = unless (depth_fault shape) (declare_each own shape given)
