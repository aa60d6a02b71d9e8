-- What the code's names say, and what stands for them.
use Rattle.std.specs.Prelude.{ℕ, List, Option, None, option_map, option_copied}
use Rattle.std.specs.Borrow.{Bor}
use Rattle.std.specs.Option.{option_or}
use Rattle.std.specs.BTreeMap.{get_by}
use Rattle.std.specs.Cmp.Lexicographic.{slice_cmp}
use Rattle.std.specs.Ordering.{nat_cmp}
use Rattle.ctf_meaning.specs.Name as meant
use Rattle.ctf_meaning.specs.Shapes.{Shape}
use Rattle.ctf_meaning_steps.specs.Seen.{Seen}
use Rattle.ctf_declared_class.specs.declared.known.Known.{Known}
use Rattle.ctf_declared_class.specs.Knowns.{known}
use Rattle.ctf_declarations.specs.Keys.{key_of}
use Rattle.ctf_declarations.specs.declared.names.Name.{Name}
use Rattle.ctf_declarations.specs.declared.names.Name.TheVariants.{Plain, Struct, Variant, Enum}
use Rattle.ctf_declarations.specs.declared.visible.BlockNames.{BlockNames}
use Rattle.ctf_declarations.specs.declared.visible.Visible.{Visible, fold-Visible}
use Rattle.ctf_declarations.specs.declared.visible.Visible.TheOpen.{Visible-F}

abbrev pub name : Name → meant.Name
name (Plain words) = meant.Plain words.now
name (Struct word) = meant.Struct word.now
name (Variant word) = meant.Variant word.now
name (Enum word) = meant.Enum word.now

-- a class that was found
abbrev pub option_known : Option (Bor Known) → Option Shape
option_known found = option_map known (option_copied found)

-- the class of a key in a block
abbrev pub class_at : BlockNames → List ℕ → Option Shape
class_at s key = option_map known (get_by (λ k. slice_cmp nat_cmp key k.items) s.classes)

-- the names of a block
abbrev pub names_in : BlockNames → Seen
names_in s name = class_at s (key_of name)

-- what each key stands for
abbrev pub Found : Type 0
Found = List ℕ → Option Shape

abbrev found_step : Visible-F Found → Found
found_step Visible-F.Nothing key = None
found_step (Visible-F.Inside names outer) key = option_or (class_at names.now key) (outer.now key)

-- the class of a key in the innermost block that has one
abbrev pub seen_at : Visible → Found
seen_at = fold-Visible Found found_step

-- the names that a class sees
abbrev pub visible : Visible → Seen
visible v name = seen_at v (key_of name)
