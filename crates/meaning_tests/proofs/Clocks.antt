-- Which integers move which clock.
use Rattle.std.specs.Prelude.{◌≡◌, true, false, List, [], ◌∷◌, Some, None, pos, codes, refl}
use Rattle.tsdl_tree.specs.declared.tree.BlockKind.TheVariants as kind
use Rattle.tsdl_tree.specs.declared.tree.TableKind.TheVariants as table
use Rattle.tsdl_tree.specs.declared.tree.Container.TheVariants as container
use Rattle.tsdl_tree.specs.declared.tree.Length.TheVariants as lengths
use Rattle.tsdl_tree.specs.declared.tree.Value.TheVariants as value
use Rattle.ctf_bits.specs.declared.number.Order.TheVariants.{Le}
use Rattle.ctf_class.specs.declared.class.Kind.TheVariants as class
use Rattle.ctf_class.specs.declared.integer.Base.TheVariants as base
use Rattle.ctf_meaning.specs.declared.fault.ResolveFault.TheVariants.{Clock}
use Rattle.ctf_meaning.specs.Written.{Declaration, Block, Table, Names, Assigned, Classed, Integer, Struct, Variant, Enum, Fields, Compound, items_from}
use Rattle.ctf_meaning.specs.Denotes.{class_of_text}
use Rattle.meaning_tests.proofs.Writing.{le_trace, clock_named, event_with, denotes_fields, set, counts, says, quotes, sized, structure, field, declarator, bare, number, unsigned, fixed, inside, covers, choice, made, member, clock, stream, trace, told}

-- trace { major = 1; minor = 8; byte_order = le; }; stream { event.header := struct { integer { size = 8; } timestamp;
-- }; };
abbrev pub stamp_default : List Declaration
stamp_default =
    le_trace
    ∷ Block kind.Stream (Classed (codes "event" ∷ codes "header" ∷ []) (structure (field (sized 8) (codes "timestamp") ∷ [])) ∷ [])
    ∷ []

pub stamp_default_faults : told stamp_default ≡ []
stamp_default_faults = refl

pub stamp_default_class : class_of_text stamp_default ≡ Some (trace None None None (stream 0 None (Some (made 8 2 2 (class.Structure (member (codes "timestamp") (made 8 1 1 (class.Integer (number 8 false base.Decimal Le true))) ∷ [])))) None (Some (clock (codes "") 1000000000 (pos 0) (pos 0))) [] ∷ []))
stamp_default_class = refl

-- clock { name = "m"; freq = 5; }; trace { major = 1; minor = 8; byte_order = le; }; stream { event.header := struct {
-- integer { size = 8; } timestamp; }; };
abbrev pub stamp_only_clock : List Declaration
stamp_only_clock =
    Table table.Clock (quotes (codes "name") (codes "m") ∷ counts (codes "freq") 5 ∷ [])
    ∷ le_trace
    ∷ Block kind.Stream (Classed (codes "event" ∷ codes "header" ∷ []) (structure (field (sized 8) (codes "timestamp") ∷ [])) ∷ [])
    ∷ []

pub stamp_only_clock_faults : told stamp_only_clock ≡ []
stamp_only_clock_faults = refl

pub stamp_only_clock_class : class_of_text stamp_only_clock ≡ Some (trace None None None (stream 0 None (Some (made 8 2 2 (class.Structure (member (codes "timestamp") (made 8 1 1 (class.Integer (number 8 false base.Decimal Le true))) ∷ [])))) None (Some (clock (codes "m") 5 (pos 0) (pos 0))) [] ∷ []))
stamp_only_clock_class = refl

-- clock { name = "m"; }; clock { name = "k"; }; trace { major = 1; minor = 8; byte_order = le; }; stream { event.header
-- := struct { integer { size = 8; } timestamp; }; };
abbrev pub stamp_two_clocks : List Declaration
stamp_two_clocks =
    clock_named (codes "m")
    ∷ clock_named (codes "k")
    ∷ le_trace
    ∷ Block kind.Stream (Classed (codes "event" ∷ codes "header" ∷ []) (structure (field (sized 8) (codes "timestamp") ∷ [])) ∷ [])
    ∷ []

pub stamp_two_clocks_faults : told stamp_two_clocks ≡ []
stamp_two_clocks_faults = refl

pub stamp_two_clocks_class : class_of_text stamp_two_clocks ≡ Some (trace None None None (stream 0 None (Some (made 8 2 2 (class.Structure (member (codes "timestamp") (unsigned 8 8) ∷ [])))) None None [] ∷ []))
stamp_two_clocks_class = refl

-- trace { major = 1; minor = 8; byte_order = le; }; stream { event.header := struct { integer { size = 8; signed =
-- true; } timestamp; }; };
abbrev pub stamp_signed : List Declaration
stamp_signed =
    le_trace
    ∷ Block kind.Stream (Classed (codes "event" ∷ codes "header" ∷ []) (structure (field (Integer (counts (codes "size") 8 ∷ says (codes "signed") (codes "true") ∷ [])) (codes "timestamp") ∷ [])) ∷ [])
    ∷ []

pub stamp_signed_faults : told stamp_signed ≡ []
stamp_signed_faults = refl

pub stamp_signed_class : class_of_text stamp_signed ≡ Some (trace None None None (stream 0 None (Some (made 8 2 2 (class.Structure (member (codes "timestamp") (made 8 1 1 (class.Integer (number 8 true base.Decimal Le false))) ∷ [])))) None None [] ∷ []))
stamp_signed_class = refl

-- trace { major = 1; minor = 8; byte_order = le; }; stream { event.header := struct { struct { struct { integer { size
-- = 8; } timestamp; } a; } b; }; };
abbrev pub stamp_deep : List Declaration
stamp_deep =
    le_trace
    ∷ Block kind.Stream (Classed (codes "event" ∷ codes "header" ∷ []) (structure (field (structure (field (structure (field (sized 8) (codes "timestamp") ∷ [])) (codes "a") ∷ [])) (codes "b") ∷ [])) ∷ [])
    ∷ []

pub stamp_deep_faults : told stamp_deep ≡ []
stamp_deep_faults = refl

pub stamp_deep_class : class_of_text stamp_deep ≡ Some (trace None None None (stream 0 None (Some (made 8 4 4 (class.Structure (member (codes "b") (made 8 3 3 (class.Structure (member (codes "a") (made 8 2 2 (class.Structure (member (codes "timestamp") (made 8 1 1 (class.Integer (number 8 false base.Decimal Le true))) ∷ []))) ∷ []))) ∷ [])))) None (Some (clock (codes "") 1000000000 (pos 0) (pos 0))) [] ∷ []))
stamp_deep_class = refl

-- trace { major = 1; minor = 8; byte_order = le; }; stream { event.header := struct { enum : integer { size = 8; } {
-- timestamp } t; variant <t> { integer { size = 8; } timestamp; } v; }; };
abbrev pub stamp_option : List Declaration
stamp_option =
    le_trace
    ∷ Block kind.Stream (Classed (codes "event" ∷ codes "header" ∷ []) (structure (field (Enum None (Some (container.Integer (counts (codes "size") 8 ∷ []))) (bare (codes "timestamp") ∷ [])) (codes "t") ∷ field (Variant None (Some (codes "t" ∷ [])) (items_from (field (sized 8) (codes "timestamp") ∷ []))) (codes "v") ∷ [])) ∷ [])
    ∷ []

pub stamp_option_faults : told stamp_option ≡ []
stamp_option_faults = refl

pub stamp_option_class : class_of_text stamp_option ≡ Some (trace None None None (stream 0 None (Some (made 8 3 4 (class.Structure (member (codes "t") (made 8 1 1 (class.Enumeration (number 8 false base.Decimal Le false) (covers (codes "timestamp") (pos 0) (pos 0) ∷ []))) ∷ member (codes "v") (made 1 2 2 (class.Variant (inside 0 (0 ∷ [])) (choice (pos 0) (pos 0) 0 ∷ []) (member (codes "timestamp") (unsigned 8 8) ∷ []))) ∷ [])))) None None [] ∷ []))
stamp_option_class = refl

-- trace { major = 1; minor = 8; byte_order = le; }; stream { event.header := struct { integer { size = 8; }
-- timestamp[2]; }; };
abbrev pub stamp_element : List Declaration
stamp_element =
    le_trace
    ∷ Block kind.Stream (Classed (codes "event" ∷ codes "header" ∷ []) (structure (Fields (sized 8) (declarator (codes "timestamp") (lengths.Constant 2 ∷ []) ∷ []) ∷ [])) ∷ [])
    ∷ []

pub stamp_element_faults : told stamp_element ≡ []
stamp_element_faults = refl

pub stamp_element_class : class_of_text stamp_element ≡ Some (trace None None None (stream 0 None (Some (made 8 3 3 (class.Structure (member (codes "timestamp") (made 8 2 2 (class.Array (fixed 2) (unsigned 8 8))) ∷ [])))) None None [] ∷ []))
stamp_element_class = refl

-- trace { major = 1; minor = 8; byte_order = le; }; stream { event.header := struct { enum : integer { size = 8; } { A
-- } t; variant <t> { struct { integer { size = 8; } timestamp; } A; } v; }; };
abbrev pub stamp_in_option : List Declaration
stamp_in_option =
    le_trace
    ∷ Block kind.Stream (Classed (codes "event" ∷ codes "header" ∷ []) (structure (field (Enum None (Some (container.Integer (counts (codes "size") 8 ∷ []))) (bare (codes "A") ∷ [])) (codes "t") ∷ field (Variant None (Some (codes "t" ∷ [])) (items_from (field (structure (field (sized 8) (codes "timestamp") ∷ [])) (codes "A") ∷ []))) (codes "v") ∷ [])) ∷ [])
    ∷ []

pub stamp_in_option_faults : told stamp_in_option ≡ []
stamp_in_option_faults = refl

pub stamp_in_option_class : class_of_text stamp_in_option ≡ Some (trace None None None (stream 0 None (Some (made 8 4 5 (class.Structure (member (codes "t") (made 8 1 1 (class.Enumeration (number 8 false base.Decimal Le false) (covers (codes "A") (pos 0) (pos 0) ∷ []))) ∷ member (codes "v") (made 1 3 3 (class.Variant (inside 0 (0 ∷ [])) (choice (pos 0) (pos 0) 0 ∷ []) (member (codes "A") (made 8 2 2 (class.Structure (member (codes "timestamp") (made 8 1 1 (class.Integer (number 8 false base.Decimal Le true))) ∷ []))) ∷ []))) ∷ [])))) None (Some (clock (codes "") 1000000000 (pos 0) (pos 0))) [] ∷ []))
stamp_in_option_class = refl

-- trace { major = 1; minor = 8; byte_order = le; }; stream { packet.context := struct { integer { size = 8; }
-- timestamp_begin; integer { size = 8; } timestamp_end; integer { size = 8; } timestamp; }; };
abbrev pub begin_top : List Declaration
begin_top =
    le_trace
    ∷ Block kind.Stream (Classed (codes "packet" ∷ codes "context" ∷ []) (structure (field (sized 8) (codes "timestamp_begin") ∷ field (sized 8) (codes "timestamp_end") ∷ field (sized 8) (codes "timestamp") ∷ [])) ∷ [])
    ∷ []

pub begin_top_faults : told begin_top ≡ []
begin_top_faults = refl

pub begin_top_class : class_of_text begin_top ≡ Some (trace None None None (stream 0 (Some (made 8 2 4 (class.Structure (member (codes "timestamp_begin") (made 8 1 1 (class.Integer (number 8 false base.Decimal Le true))) ∷ member (codes "timestamp_end") (unsigned 8 8) ∷ member (codes "timestamp") (unsigned 8 8) ∷ [])))) None None (Some (clock (codes "") 1000000000 (pos 0) (pos 0))) [] ∷ []))
begin_top_class = refl

-- trace { major = 1; minor = 8; byte_order = le; }; stream { packet.context := struct { struct { integer { size = 8; }
-- timestamp_begin; } a; }; };
abbrev pub begin_deep : List Declaration
begin_deep =
    le_trace
    ∷ Block kind.Stream (Classed (codes "packet" ∷ codes "context" ∷ []) (structure (field (structure (field (sized 8) (codes "timestamp_begin") ∷ [])) (codes "a") ∷ [])) ∷ [])
    ∷ []

pub begin_deep_faults : told begin_deep ≡ []
begin_deep_faults = refl

pub begin_deep_class : class_of_text begin_deep ≡ Some (trace None None None (stream 0 (Some (made 8 3 3 (class.Structure (member (codes "a") (made 8 2 2 (class.Structure (member (codes "timestamp_begin") (unsigned 8 8) ∷ []))) ∷ [])))) None None None [] ∷ []))
begin_deep_class = refl

-- clock { name = "m"; }; trace { major = 1; minor = 8; byte_order = le; }; stream { packet.context := struct { integer
-- { size = 8; map = clock.m.value; } timestamp_end; }; };
abbrev pub end_mapped : List Declaration
end_mapped =
    clock_named (codes "m")
    ∷ le_trace
    ∷ Block kind.Stream (Classed (codes "packet" ∷ codes "context" ∷ []) (structure (field (Integer (counts (codes "size") 8 ∷ set (codes "map" ∷ []) (value.Name (codes "clock" ∷ codes "m" ∷ codes "value" ∷ [])) ∷ [])) (codes "timestamp_end") ∷ [])) ∷ [])
    ∷ []

pub end_mapped_faults : told end_mapped ≡ []
end_mapped_faults = refl

pub end_mapped_class : class_of_text end_mapped ≡ Some (trace None None None (stream 0 (Some (made 8 2 2 (class.Structure (member (codes "timestamp_end") (unsigned 8 8) ∷ [])))) None None None [] ∷ []))
end_mapped_class = refl

-- clock { name = "m"; }; trace { major = 1; minor = 8; byte_order = le; }; stream { packet.context := struct { struct {
-- integer { size = 8; map = clock.m.value; } timestamp_end; } a; }; };
abbrev pub end_deep : List Declaration
end_deep =
    clock_named (codes "m")
    ∷ le_trace
    ∷ Block kind.Stream (Classed (codes "packet" ∷ codes "context" ∷ []) (structure (field (structure (field (Integer (counts (codes "size") 8 ∷ set (codes "map" ∷ []) (value.Name (codes "clock" ∷ codes "m" ∷ codes "value" ∷ [])) ∷ [])) (codes "timestamp_end") ∷ [])) (codes "a") ∷ [])) ∷ [])
    ∷ []

pub end_deep_faults : told end_deep ≡ []
end_deep_faults = refl

pub end_deep_class : class_of_text end_deep ≡ Some (trace None None None (stream 0 (Some (made 8 3 3 (class.Structure (member (codes "a") (made 8 2 2 (class.Structure (member (codes "timestamp_end") (made 8 1 1 (class.Integer (number 8 false base.Decimal Le true))) ∷ []))) ∷ [])))) None None (Some (clock (codes "m") 1000000000 (pos 0) (pos 0))) [] ∷ []))
end_deep_class = refl

-- clock { name = "m"; }; trace { major = 1; minor = 8; byte_order = le; }; stream { packet.context := struct { integer
-- { size = 8; map = clock.m.value; } timestamp_end[2]; }; };
abbrev pub end_array : List Declaration
end_array =
    clock_named (codes "m")
    ∷ le_trace
    ∷ Block kind.Stream (Classed (codes "packet" ∷ codes "context" ∷ []) (structure (Fields (Integer (counts (codes "size") 8 ∷ set (codes "map" ∷ []) (value.Name (codes "clock" ∷ codes "m" ∷ codes "value" ∷ [])) ∷ [])) (declarator (codes "timestamp_end") (lengths.Constant 2 ∷ []) ∷ []) ∷ [])) ∷ [])
    ∷ []

pub end_array_faults : told end_array ≡ []
end_array_faults = refl

pub end_array_class : class_of_text end_array ≡ Some (trace None None None (stream 0 (Some (made 8 3 3 (class.Structure (member (codes "timestamp_end") (made 8 2 2 (class.Array (fixed 2) (made 8 1 1 (class.Integer (number 8 false base.Decimal Le true))))) ∷ [])))) None None (Some (clock (codes "m") 1000000000 (pos 0) (pos 0))) [] ∷ []))
end_array_class = refl

-- clock { name = "m"; }; trace { major = 1; minor = 8; byte_order = le; }; stream { packet.context := struct { integer
-- { size = 8; signed = true; map = clock.m.value; } x; }; };
abbrev pub signed_mapped : List Declaration
signed_mapped =
    clock_named (codes "m")
    ∷ le_trace
    ∷ Block kind.Stream (Classed (codes "packet" ∷ codes "context" ∷ []) (structure (field (Integer (counts (codes "size") 8 ∷ says (codes "signed") (codes "true") ∷ set (codes "map" ∷ []) (value.Name (codes "clock" ∷ codes "m" ∷ codes "value" ∷ [])) ∷ [])) (codes "x") ∷ [])) ∷ [])
    ∷ []

pub signed_mapped_faults : told signed_mapped ≡ []
signed_mapped_faults = refl

pub signed_mapped_class : class_of_text signed_mapped ≡ Some (trace None None None (stream 0 (Some (made 8 2 2 (class.Structure (member (codes "x") (made 8 1 1 (class.Integer (number 8 true base.Decimal Le true))) ∷ [])))) None None (Some (clock (codes "m") 1000000000 (pos 0) (pos 0))) [] ∷ []))
signed_mapped_class = refl

-- clock { name = "m"; }; trace { major = 1; minor = 8; byte_order = le; }; stream { event.header := struct { enum :
-- integer { size = 8; map = clock.m.value; } { A } x; }; };
abbrev pub container_mapped : List Declaration
container_mapped =
    clock_named (codes "m")
    ∷ le_trace
    ∷ Block kind.Stream (Classed (codes "event" ∷ codes "header" ∷ []) (structure (field (Enum None (Some (container.Integer (counts (codes "size") 8 ∷ set (codes "map" ∷ []) (value.Name (codes "clock" ∷ codes "m" ∷ codes "value" ∷ [])) ∷ []))) (bare (codes "A") ∷ [])) (codes "x") ∷ [])) ∷ [])
    ∷ []

pub container_mapped_faults : told container_mapped ≡ []
container_mapped_faults = refl

pub container_mapped_class : class_of_text container_mapped ≡ Some (trace None None None (stream 0 None (Some (made 8 2 2 (class.Structure (member (codes "x") (made 8 1 1 (class.Enumeration (number 8 false base.Decimal Le false) (covers (codes "A") (pos 0) (pos 0) ∷ []))) ∷ [])))) None None [] ∷ []))
container_mapped_class = refl

-- clock { name = "m"; }; trace { major = 1; minor = 8; byte_order = le; }; stream { event.header := struct { enum :
-- integer { size = 8; map = clock.q.value; } { A } x; }; };
abbrev pub container_unknown_clock : List Declaration
container_unknown_clock =
    clock_named (codes "m")
    ∷ le_trace
    ∷ Block kind.Stream (Classed (codes "event" ∷ codes "header" ∷ []) (structure (field (Enum None (Some (container.Integer (counts (codes "size") 8 ∷ set (codes "map" ∷ []) (value.Name (codes "clock" ∷ codes "q" ∷ codes "value" ∷ [])) ∷ []))) (bare (codes "A") ∷ [])) (codes "x") ∷ [])) ∷ [])
    ∷ []

pub container_unknown_clock_faults : told container_unknown_clock ≡ Clock ∷ []
container_unknown_clock_faults = refl

-- trace { major = 1; minor = 8; byte_order = le; }; event { name = "n"; fields := struct { integer { size = 8; map =
-- clock.q.value; } x; }; };
abbrev pub unknown_clock : List Declaration
unknown_clock =
    le_trace
    ∷ event_with (field (Integer (counts (codes "size") 8 ∷ set (codes "map" ∷ []) (value.Name (codes "clock" ∷ codes "q" ∷ codes "value" ∷ [])) ∷ [])) (codes "x") ∷ [])
    ∷ []

pub unknown_clock_faults : told unknown_clock ≡ Clock ∷ []
unknown_clock_faults = refl

-- trace { major = 1; minor = 8; byte_order = le; packet.header := struct { integer { size = 8; map = clock.q.value; }
-- x; }; };
abbrev pub unknown_clock_header : List Declaration
unknown_clock_header =
    Block kind.Trace (Assigned (counts (codes "major") 1) ∷ Assigned (counts (codes "minor") 8) ∷ Assigned (says (codes "byte_order") (codes "le")) ∷ Classed (codes "packet" ∷ codes "header" ∷ []) (structure (field (Integer (counts (codes "size") 8 ∷ set (codes "map" ∷ []) (value.Name (codes "clock" ∷ codes "q" ∷ codes "value" ∷ [])) ∷ [])) (codes "x") ∷ [])) ∷ [])
    ∷ []

pub unknown_clock_header_faults : told unknown_clock_header ≡ Clock ∷ []
unknown_clock_header_faults = refl

-- clock { name = "m"; }; trace { major = 1; minor = 8; byte_order = le; packet.header := struct { integer { size = 8;
-- map = clock.m.value; } timestamp; }; };
abbrev pub header_moves_not : List Declaration
header_moves_not =
    clock_named (codes "m")
    ∷ Block kind.Trace (Assigned (counts (codes "major") 1) ∷ Assigned (counts (codes "minor") 8) ∷ Assigned (says (codes "byte_order") (codes "le")) ∷ Classed (codes "packet" ∷ codes "header" ∷ []) (structure (field (Integer (counts (codes "size") 8 ∷ set (codes "map" ∷ []) (value.Name (codes "clock" ∷ codes "m" ∷ codes "value" ∷ [])) ∷ [])) (codes "timestamp") ∷ [])) ∷ [])
    ∷ []

pub header_moves_not_faults : told header_moves_not ≡ []
header_moves_not_faults = refl

pub header_moves_not_class : class_of_text header_moves_not ≡ Some (trace None None (Some (made 8 2 2 (class.Structure (member (codes "timestamp") (unsigned 8 8) ∷ [])))) (stream 0 None None None None [] ∷ []))
header_moves_not_class = refl

-- trace { major = 1; minor = 8; byte_order = le; }; struct x { integer { size = 8; map = clock.q.value; } a; };
abbrev pub unknown_clock_unused : List Declaration
unknown_clock_unused =
    le_trace
    ∷ Names (Compound (Struct (Some (codes "x")) (items_from (field (Integer (counts (codes "size") 8 ∷ set (codes "map" ∷ []) (value.Name (codes "clock" ∷ codes "q" ∷ codes "value" ∷ [])) ∷ [])) (codes "a") ∷ [])) None))
    ∷ []

pub unknown_clock_unused_faults : told unknown_clock_unused ≡ []
unknown_clock_unused_faults = refl

pub unknown_clock_unused_class : class_of_text unknown_clock_unused ≡ Some (trace None None None (stream 0 None None None None [] ∷ []))
unknown_clock_unused_class = refl

-- trace { major = 1; minor = 8; byte_order = le; }; stream { event.header := struct { integer { size = 8; map =
-- clock.m.value; } x; }; }; clock { name = "m"; };
abbrev pub clock_later : List Declaration
clock_later =
    le_trace
    ∷ Block kind.Stream (Classed (codes "event" ∷ codes "header" ∷ []) (structure (field (Integer (counts (codes "size") 8 ∷ set (codes "map" ∷ []) (value.Name (codes "clock" ∷ codes "m" ∷ codes "value" ∷ [])) ∷ [])) (codes "x") ∷ [])) ∷ [])
    ∷ clock_named (codes "m")
    ∷ []

pub clock_later_faults : told clock_later ≡ []
clock_later_faults = refl

pub clock_later_class : class_of_text clock_later ≡ Some (trace None None None (stream 0 None (Some (made 8 2 2 (class.Structure (member (codes "x") (made 8 1 1 (class.Integer (number 8 false base.Decimal Le true))) ∷ [])))) None (Some (clock (codes "m") 1000000000 (pos 0) (pos 0))) [] ∷ []))
clock_later_class = refl

-- clock { name = "m"; }; trace { major = 1; minor = 8; byte_order = le; }; stream { event.header := struct { integer {
-- size = 8; encoding = UTF8; map = clock.m.value; } x[4]; }; };
abbrev pub text_moves : List Declaration
text_moves =
    clock_named (codes "m")
    ∷ le_trace
    ∷ Block kind.Stream (Classed (codes "event" ∷ codes "header" ∷ []) (structure (Fields (Integer (counts (codes "size") 8 ∷ says (codes "encoding") (codes "UTF8") ∷ set (codes "map" ∷ []) (value.Name (codes "clock" ∷ codes "m" ∷ codes "value" ∷ [])) ∷ [])) (declarator (codes "x") (lengths.Constant 4 ∷ []) ∷ []) ∷ [])) ∷ [])
    ∷ []

pub text_moves_faults : told text_moves ≡ []
text_moves_faults = refl

pub text_moves_class : class_of_text text_moves ≡ Some (trace None None None (stream 0 None (Some (made 8 3 3 (class.Structure (member (codes "x") (made 8 2 2 (class.Text (fixed 4))) ∷ [])))) None (Some (clock (codes "m") 1000000000 (pos 0) (pos 0))) [] ∷ []))
text_moves_class = refl

-- clock { name = "m"; }; trace { major = 1; minor = 8; byte_order = le; }; event { name = "n"; fields := struct {
-- integer { size = 8; map = clock.m.value; } timestamp; }; };
abbrev pub event_fields_move_not : List Declaration
event_fields_move_not =
    clock_named (codes "m")
    ∷ le_trace
    ∷ event_with (field (Integer (counts (codes "size") 8 ∷ set (codes "map" ∷ []) (value.Name (codes "clock" ∷ codes "m" ∷ codes "value" ∷ [])) ∷ [])) (codes "timestamp") ∷ [])
    ∷ []

pub event_fields_move_not_faults : told event_fields_move_not ≡ []
event_fields_move_not_faults = refl

pub event_fields_move_not_class : class_of_text event_fields_move_not ≡ denotes_fields (made 8 2 2 (class.Structure (member (codes "timestamp") (unsigned 8 8) ∷ [])))
event_fields_move_not_class = refl

-- trace { major = 1; minor = 8; byte_order = le; }; clock { name = "a"; }; clock { name = "b"; }; stream {
-- packet.context := struct { integer { size = 8; map = clock.b.value; } timestamp_end; }; event.header := ..
abbrev pub end_and_other_clock : List Declaration
end_and_other_clock =
    le_trace
    ∷ clock_named (codes "a")
    ∷ clock_named (codes "b")
    ∷ Block kind.Stream (Classed (codes "packet" ∷ codes "context" ∷ []) (structure (field (Integer (counts (codes "size") 8 ∷ set (codes "map" ∷ []) (value.Name (codes "clock" ∷ codes "b" ∷ codes "value" ∷ [])) ∷ [])) (codes "timestamp_end") ∷ [])) ∷ Classed (codes "event" ∷ codes "header" ∷ []) (structure (field (Integer (counts (codes "size") 8 ∷ set (codes "map" ∷ []) (value.Name (codes "clock" ∷ codes "a" ∷ codes "value" ∷ [])) ∷ [])) (codes "x") ∷ [])) ∷ [])
    ∷ []

pub end_and_other_clock_faults : told end_and_other_clock ≡ []
end_and_other_clock_faults = refl

pub end_and_other_clock_class : class_of_text end_and_other_clock ≡ Some (trace None None None (stream 0 (Some (made 8 2 2 (class.Structure (member (codes "timestamp_end") (unsigned 8 8) ∷ [])))) (Some (made 8 2 2 (class.Structure (member (codes "x") (made 8 1 1 (class.Integer (number 8 false base.Decimal Le true))) ∷ [])))) None (Some (clock (codes "a") 1000000000 (pos 0) (pos 0))) [] ∷ []))
end_and_other_clock_class = refl

-- trace { major = 1; minor = 8; byte_order = le; }; clock { name = "a"; }; clock { name = "b"; }; stream {
-- packet.context := struct { integer { size = 8; map = clock.b.value; } x; }; event.header := struct { ..
abbrev pub two_scopes_two_clocks : List Declaration
two_scopes_two_clocks =
    le_trace
    ∷ clock_named (codes "a")
    ∷ clock_named (codes "b")
    ∷ Block kind.Stream (Classed (codes "packet" ∷ codes "context" ∷ []) (structure (field (Integer (counts (codes "size") 8 ∷ set (codes "map" ∷ []) (value.Name (codes "clock" ∷ codes "b" ∷ codes "value" ∷ [])) ∷ [])) (codes "x") ∷ [])) ∷ Classed (codes "event" ∷ codes "header" ∷ []) (structure (field (Integer (counts (codes "size") 8 ∷ set (codes "map" ∷ []) (value.Name (codes "clock" ∷ codes "a" ∷ codes "value" ∷ [])) ∷ [])) (codes "x") ∷ [])) ∷ [])
    ∷ []

pub two_scopes_two_clocks_faults : told two_scopes_two_clocks ≡ Clock ∷ []
two_scopes_two_clocks_faults = refl
