-- How values are shown.
use Rattle.std.specs.Prelude.{ℕ, suc, pos, List, [], ◌∷◌, ◌++◌, Option, Some, None, slice_get, codes}
use Rattle.std.specs.Fmt.{decimal}
use Rattle.ctf_class.specs.declared.class.Class.{Class, fold-Class}
use Rattle.ctf_class.specs.declared.class.Member.{Member, fold-Member}
use Rattle.ctf_class.specs.declared.class.Kind.TheOpen.{Class-F, Kind-F, Member-F}
use Rattle.ctf_class.specs.declared.integer.Integer.{Integer}
use Rattle.ctf_class.specs.declared.span.Label.{Label}
use Rattle.ctf_class.specs.Names.{field_text, label_text}
use Rattle.ctf_decode.specs.Values.{Val, Vals, no_vals, more_vals, unsigned, signed, label, text}
use Rattle.ctf_decode.specs.Fields.{members_in, elements_in, choice_in}
use Rattle.ctf_format.specs.Numbers.{number_text}
use Rattle.ctf_format.specs.Labels.{labelled_text}
use Rattle.ctf_format.specs.Rows.{enclosed}

-- what is shown of each value; a value of another class than the one that shows it, or a part of it, gives
-- nothing (own)
abbrev pub Shown : Type 0
Shown = Val → List ℕ

-- a member's or an option's name, and what is shown of its values
abbrev pub Part : Type 0
Part = List ℕ × Shown

-- an integer
abbrev pub integer_text : Integer → Shown
integer_text integer (unsigned n) = number_text integer (pos n)
integer_text integer (signed z) = number_text integer z
integer_text integer _ = []

-- an enumeration
abbrev pub enumeration_text : Integer → List Label → Shown
enumeration_text container labels (label z) = labelled_text container labels z
enumeration_text container labels _ = []

-- a string, or an array of characters, is shown as a label is: escaped, in quotes
abbrev pub string_text : Shown
string_text (text bytes) = label_text bytes
string_text _ = []

-- a member: its name, ` = ` and its value
abbrev pub part_text : Part → Shown
part_text part v = field_text part.0 ++ part.1 v

-- the members of a structure, as far as there are values
abbrev pub member_texts : List Part → Vals → List (List ℕ)
member_texts [] vs = []
member_texts (part ∷ parts) no_vals = []
member_texts (part ∷ parts) (more_vals v vs) = part_text part v ∷ member_texts parts vs

-- an element: its index in brackets, ` = ` and its value
abbrev pub element_text : Shown → ℕ → Shown
element_text shown i v = codes "[" ++ (decimal i ++ (codes "] = " ++ shown v))

-- the elements of an array, from an index on
abbrev pub element_texts : Shown → ℕ → Vals → List (List ℕ)
element_texts shown i no_vals = []
element_texts shown i (more_vals v vs) = element_text shown i v ∷ element_texts shown (suc i) vs

-- an option of a variant, where there is one of that number
abbrev pub option_text : Option Part → Val → List ℕ
option_text None v = []
option_text (Some part) v = enclosed 123 125 (part_text part v ∷ [])

abbrev pub chosen_text : List Part → Option (ℕ × Val) → List ℕ
chosen_text parts None = []
chosen_text parts (Some choice) = option_text (slice_get parts choice.0) choice.1

-- what a class shows (own)
abbrev pub kind_step : Kind-F Shown Shown Part → Shown
kind_step (Kind-F.Integer integer) v = integer_text integer v
kind_step (Kind-F.Enumeration container labels) v = enumeration_text container labels v
kind_step Kind-F.String v = string_text v
kind_step (Kind-F.Structure parts) v = enclosed 123 125 (member_texts parts (members_in v))
kind_step (Kind-F.Variant tag choices parts) v = chosen_text parts (choice_in v)
kind_step (Kind-F.Array length shown) v = enclosed 91 93 (element_texts shown 0 (elements_in v))
kind_step (Kind-F.Text length) v = string_text v

abbrev pub class_step : Class-F Shown Shown Part → Shown
class_step class = class.kind

abbrev pub member_step : Member-F Shown Shown Part → Part
member_step member = (member.name, member.class)

-- the text of a value of a class
abbrev pub value_text : Class → Shown
value_text = fold-Class Shown Shown Part kind_step class_step member_step

abbrev pub member_part : Member → Part
member_part = fold-Member Shown Shown Part kind_step class_step member_step
