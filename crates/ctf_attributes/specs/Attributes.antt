-- What is wrong with single attributes. (CTF 1.8.3, section 4.1.5.)
use Rattle.std.specs.Prelude.{ℕ, ◌%◌, ◌==◌, if◌then◌else◌, List, ◌++◌, Option, is_none, codes}
use Rattle.tsdl_tree.specs.declared.tree.Setting.{Setting}
use Rattle.tsdl_tree.specs.declared.tree.Value.{Value}
use Rattle.ctf_meaning.specs.declared.fault.ResolveFault.{ResolveFault}
use Rattle.ctf_meaning.specs.declared.fault.ResolveFault.TheVariants.{Attribute}
use Rattle.ctf_meaning.specs.Name.{Word}
use Rattle.ctf_meaning.specs.Settings.{when, one, attribute, number_of, wrong}
use Rattle.ctf_meaning.specs.Integers.{is_size, is_alignment_number, outside}

-- the value of the first setting of this word
abbrev pub value_of : List Setting → Word → Option Value
value_of settings word = attribute settings (one word)

abbrev pub size_faults : List Setting → List ResolveFault
size_faults settings =
    when (is_none (value_of settings (codes "size"))) Attribute
    ++ wrong number_of (value_of settings (codes "size"))
    ++ outside is_size (value_of settings (codes "size"))

abbrev pub align_faults : List Setting → List ResolveFault
align_faults settings =
    wrong number_of (value_of settings (codes "align"))
    ++ outside is_alignment_number (value_of settings (codes "align"))

-- the alignment of an integer of this size that has none
abbrev pub align_by_size : ℕ → ℕ
align_by_size size = if size % 8 == 0 then 8 else 1
