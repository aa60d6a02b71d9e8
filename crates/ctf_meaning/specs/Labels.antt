-- The labels of an enumeration with their numbers. (CTF 1.8.3, section 4.1.8.)
use Rattle.std.specs.Prelude.{Bool, false, ◌||◌, List, [], ◌∷◌, ◌++◌, Option, Some, None, unwrap_or, option_and_then, is_none, ℤ, pos, ◌+ℤ◌, int_lt}
use Rattle.std.specs.List.{list_any}
use Rattle.std.specs.Option.{option_map_or}
use Rattle.tsdl_tree.specs.declared.tree.Span.{Span as WrittenSpan}
use Rattle.tsdl_tree.specs.declared.tree.Label.{Label as WrittenLabel}
use Rattle.ctf_class.specs.declared.span.Label.{Label}
use Rattle.ctf_meaning.specs.declared.fault.ResolveFault.{ResolveFault}
use Rattle.ctf_meaning.specs.declared.fault.ResolveFault.TheVariants.{Attribute}
use Rattle.ctf_meaning.specs.Settings.{when, number_by}

-- A label without a number is one past the end of the one before.
abbrev pub first_number : ℤ → Option WrittenSpan → ℤ
first_number next None = next
first_number next (Some span) = unwrap_or (number_by span.first) next

-- A label without a range ends where it begins.
abbrev pub last_number : ℤ → Option WrittenSpan → ℤ
last_number first None = first
last_number first (Some span) = unwrap_or (option_and_then number_by span.last) first

abbrev pub labels_from : ℤ → List WrittenLabel → List Label
labels_from next [] = []
labels_from next (l ∷ ls) =
    let first = first_number next l.span in
    let last = last_number first l.span in
    record { name = l.name; span = record { first = first; last = last } }
    ∷ labels_from (last +ℤ pos 1) ls

-- The first label is 0. The numbers have no bounds, whatever the container holds (own).
abbrev pub labels_of : List WrittenLabel → List Label
labels_of = labels_from (pos 0)

-- a `-` before a constant above 2^63: R3 (own)
abbrev pub has_no_number : WrittenSpan → Bool
has_no_number span =
    is_none (number_by span.first) || option_map_or (λ n. is_none (number_by n)) span.last false

-- a range that goes backwards: R3
abbrev pub goes_backwards : Label → Bool
goes_backwards label = int_lt label.span.last label.span.first

abbrev pub label_faults : List WrittenLabel → List ResolveFault
label_faults labels =
    when (list_any (λ l. option_map_or has_no_number l.span false) labels) Attribute
    ++ when (list_any goes_backwards (labels_of labels)) Attribute
