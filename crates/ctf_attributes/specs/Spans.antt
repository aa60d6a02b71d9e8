-- The numbers of one label. (CTF 1.8.3, section 4.1.8.)
use Rattle.std.specs.Prelude.{Bool, false, List, ◌++◌, Option, ℤ, int_lt}
use Rattle.std.specs.Option.{option_map_or}
use Rattle.tsdl_tree.specs.declared.tree.Span.{Span as WrittenSpan}
use Rattle.ctf_class.specs.declared.span.Span.{Span}
use Rattle.ctf_meaning.specs.declared.fault.ResolveFault.{ResolveFault}
use Rattle.ctf_meaning.specs.declared.fault.ResolveFault.TheVariants.{Attribute}
use Rattle.ctf_meaning.specs.Settings.{when}
use Rattle.ctf_meaning.specs.Labels.{first_number, last_number, has_no_number}

-- the numbers of a label, where the label before ends one below `next`
abbrev pub span_of : ℤ → Option WrittenSpan → Span
span_of next written = record {
  first = first_number next written;
  last = last_number (first_number next written) written;
}

abbrev pub is_numberless : Option WrittenSpan → Bool
is_numberless written = option_map_or has_no_number written false

-- A `-` before a constant above 2^63, or a range that goes backwards, is R3.
abbrev pub span_faults : ℤ → Option WrittenSpan → List ResolveFault
span_faults next written =
    when (is_numberless written) Attribute
    ++ when (int_lt (span_of next written).last (span_of next written).first) Attribute
