-- What is in blocks, and which fault is reported.
use Rattle.std.specs.Prelude.{◌≡◌, true, false, List, [], ◌∷◌, Some, None, pos, negsuc, codes, refl}
use Rattle.uuid.specs.Text.{by_index}
use Rattle.tsdl_tree.specs.declared.tree.BlockKind.TheVariants as kind
use Rattle.tsdl_tree.specs.declared.tree.TableKind.TheVariants as table
use Rattle.tsdl_tree.specs.declared.tree.Container.TheVariants as container
use Rattle.tsdl_tree.specs.declared.tree.Length.TheVariants as lengths
use Rattle.tsdl_tree.specs.declared.tree.Value.TheVariants as value
use Rattle.ctf_bits.specs.declared.number.Order.TheVariants.{Le}
use Rattle.ctf_class.specs.declared.class.Kind.TheVariants as class
use Rattle.ctf_class.specs.declared.integer.Base.TheVariants as base
use Rattle.ctf_class.specs.declared.route.Scope.TheVariants.{PacketContext}
use Rattle.ctf_meaning.specs.declared.fault.ResolveFault.TheVariants.{UnknownType, Attribute, FloatingPoint, LengthOrTag, Clock, Twice}
use Rattle.ctf_meaning.specs.Name as name
use Rattle.ctf_meaning.specs.Written.{Declaration, Block, Table, Names, Assigned, Classed, Declared, Integer, Float, String, Struct, Variant, Enum, Named, Fields, Alias, Definition, Compound, items_from}
use Rattle.ctf_meaning.specs.Denotes.{class_of_text}
use Rattle.meaning_tests.proofs.Writing.{le_trace, clock_named, event_with, denotes_fields, set, counts, says, quotes, minus, sized, structure, named, field, declarator, container_named, bare, number, unsigned, counted, before, made, member, clock, event, stream, trace, told}

-- trace { major = 1; minor = 8; };
abbrev pub no_order : List Declaration
no_order =
    Block kind.Trace (Assigned (counts (codes "major") 1) ∷ Assigned (counts (codes "minor") 8) ∷ [])
    ∷ []

pub no_order_faults : told no_order ≡ Attribute ∷ []
no_order_faults = refl

-- trace { major = 1; minor = 8; byte_order = native; };
abbrev pub order_native : List Declaration
order_native =
    Block kind.Trace (Assigned (counts (codes "major") 1) ∷ Assigned (counts (codes "minor") 8) ∷ Assigned (says (codes "byte_order") (codes "native")) ∷ [])
    ∷ []

pub order_native_faults : told order_native ≡ Attribute ∷ []
order_native_faults = refl

-- trace { major = 1; minor = 8; byte_order = "network"; };
abbrev pub order_quoted : List Declaration
order_quoted =
    Block kind.Trace (Assigned (counts (codes "major") 1) ∷ Assigned (counts (codes "minor") 8) ∷ Assigned (quotes (codes "byte_order") (codes "network")) ∷ [])
    ∷ []

pub order_quoted_faults : told order_quoted ≡ []
order_quoted_faults = refl

pub order_quoted_class : class_of_text order_quoted ≡ Some (trace None None None (stream 0 None None None None [] ∷ []))
order_quoted_class = refl

-- trace { major = 2; minor = 8; byte_order = le; };
abbrev pub version : List Declaration
version =
    Block kind.Trace (Assigned (counts (codes "major") 2) ∷ Assigned (counts (codes "minor") 8) ∷ Assigned (says (codes "byte_order") (codes "le")) ∷ [])
    ∷ []

pub version_faults : told version ≡ Attribute ∷ []
version_faults = refl

-- trace { major = "1"; minor = 8; byte_order = le; };
abbrev pub version_quoted : List Declaration
version_quoted =
    Block kind.Trace (Assigned (quotes (codes "major") (codes "1")) ∷ Assigned (counts (codes "minor") 8) ∷ Assigned (says (codes "byte_order") (codes "le")) ∷ [])
    ∷ []

pub version_quoted_faults : told version_quoted ≡ Attribute ∷ []
version_quoted_faults = refl

-- trace { major = 1; byte_order = le; };
abbrev pub minor_missing : List Declaration
minor_missing =
    Block kind.Trace (Assigned (counts (codes "major") 1) ∷ Assigned (says (codes "byte_order") (codes "le")) ∷ [])
    ∷ []

pub minor_missing_faults : told minor_missing ≡ Attribute ∷ []
minor_missing_faults = refl

-- trace { major = 1; minor = 8; byte_order = le; }; trace { major = 1; minor = 8; byte_order = le; };
abbrev pub two_traces : List Declaration
two_traces =
    le_trace
    ∷ le_trace
    ∷ []

pub two_traces_faults : told two_traces ≡ Twice ∷ []
two_traces_faults = refl

-- trace { major = 1; minor = 8; byte_order = le; uuid = 5; };
abbrev pub uuid_number : List Declaration
uuid_number =
    Block kind.Trace (Assigned (counts (codes "major") 1) ∷ Assigned (counts (codes "minor") 8) ∷ Assigned (says (codes "byte_order") (codes "le")) ∷ Assigned (counts (codes "uuid") 5) ∷ [])
    ∷ []

pub uuid_number_faults : told uuid_number ≡ Attribute ∷ []
unfolding by_index
uuid_number_faults = refl

-- trace { major = 1; major = 1; minor = 8; byte_order = le; };
abbrev pub trace_twice_major : List Declaration
trace_twice_major =
    Block kind.Trace (Assigned (counts (codes "major") 1) ∷ Assigned (counts (codes "major") 1) ∷ Assigned (counts (codes "minor") 8) ∷ Assigned (says (codes "byte_order") (codes "le")) ∷ [])
    ∷ []

pub trace_twice_major_faults : told trace_twice_major ≡ Attribute ∷ []
trace_twice_major_faults = refl

-- trace { major := struct { }; minor = 8; byte_order = le; };
abbrev pub value_as_class : List Declaration
value_as_class =
    Block kind.Trace (Classed (codes "major" ∷ []) (structure []) ∷ Assigned (counts (codes "minor") 8) ∷ Assigned (says (codes "byte_order") (codes "le")) ∷ [])
    ∷ []

pub value_as_class_faults : told value_as_class ≡ Attribute ∷ []
value_as_class_faults = refl

-- trace { major = 1; minor = 8; byte_order = le; }; event { name = "n"; fields := struct { }; fields := struct {
-- floating_point { } f; }; };
abbrev pub fields_twice : List Declaration
fields_twice =
    le_trace
    ∷ Block kind.Event (Assigned (quotes (codes "name") (codes "n")) ∷ Classed (codes "fields" ∷ []) (structure []) ∷ Classed (codes "fields" ∷ []) (structure (field (Float []) (codes "f") ∷ [])) ∷ [])
    ∷ []

pub fields_twice_faults : told fields_twice ≡ Attribute ∷ FloatingPoint ∷ []
fields_twice_faults = refl

-- trace { major = 1; minor = 8; byte_order = le; }; stream { id := struct { }; };
abbrev pub id_as_class : List Declaration
id_as_class =
    le_trace
    ∷ Block kind.Stream (Classed (codes "id" ∷ []) (structure []) ∷ [])
    ∷ []

pub id_as_class_faults : told id_as_class ≡ Attribute ∷ []
id_as_class_faults = refl

-- trace { major = 1; minor = 8; byte_order = le; }; event { name = "n"; fields = 5; };
abbrev pub class_as_value : List Declaration
class_as_value =
    le_trace
    ∷ Block kind.Event (Assigned (quotes (codes "name") (codes "n")) ∷ Assigned (counts (codes "fields") 5) ∷ [])
    ∷ []

pub class_as_value_faults : told class_as_value ≡ Attribute ∷ []
class_as_value_faults = refl

-- trace { major = 1; minor = 8; byte_order = le; packet.header := string; };
abbrev pub header_no_structure : List Declaration
header_no_structure =
    Block kind.Trace (Assigned (counts (codes "major") 1) ∷ Assigned (counts (codes "minor") 8) ∷ Assigned (says (codes "byte_order") (codes "le")) ∷ Classed (codes "packet" ∷ codes "header" ∷ []) (String []) ∷ [])
    ∷ []

pub header_no_structure_faults : told header_no_structure ≡ Attribute ∷ []
header_no_structure_faults = refl

-- trace { major = 1; minor = 8; byte_order = le; packet.header := struct { }; packet . header := struct { }; };
abbrev pub header_twice : List Declaration
header_twice =
    Block kind.Trace (Assigned (counts (codes "major") 1) ∷ Assigned (counts (codes "minor") 8) ∷ Assigned (says (codes "byte_order") (codes "le")) ∷ Classed (codes "packet" ∷ codes "header" ∷ []) (structure []) ∷ Classed (codes "packet" ∷ codes "header" ∷ []) (structure []) ∷ [])
    ∷ []

pub header_twice_faults : told header_twice ≡ Attribute ∷ []
header_twice_faults = refl

-- trace { major = 1; minor = 8; byte_order = le; }; event { name = "n"; fields := struct { enum : integer { size = 8; }
-- { A } t; variant <t> { struct { floating_point { } g[2]; } A; } v; }; };
abbrev pub float_deep : List Declaration
float_deep =
    le_trace
    ∷ event_with (field (Enum None (Some (container.Integer (counts (codes "size") 8 ∷ []))) (bare (codes "A") ∷ [])) (codes "t") ∷ field (Variant None (Some (codes "t" ∷ [])) (items_from (field (structure (Fields (Float []) (declarator (codes "g") (lengths.Constant 2 ∷ []) ∷ []) ∷ [])) (codes "A") ∷ []))) (codes "v") ∷ [])
    ∷ []

pub float_deep_faults : told float_deep ≡ FloatingPoint ∷ []
float_deep_faults = refl

-- typedef floating_point { } f[2]; trace { major = 1; minor = 8; byte_order = le; }; event { name = "n"; fields :=
-- struct { f a; }; };
abbrev pub float_named : List Declaration
float_named =
    Names (Definition (Float []) (declarator (codes "f") (lengths.Constant 2 ∷ []) ∷ []))
    ∷ le_trace
    ∷ event_with (field (named (codes "f")) (codes "a") ∷ [])
    ∷ []

pub float_named_faults : told float_named ≡ FloatingPoint ∷ []
float_named_faults = refl

-- trace { major = 1; minor = 8; byte_order = le; }; stream { id = 18446744073709551615; }; event { name = "n"; id =
-- 18446744073709551615; stream_id = 18446744073709551615; };
abbrev pub id_largest : List Declaration
id_largest =
    le_trace
    ∷ Block kind.Stream (Assigned (counts (codes "id") 18446744073709551615) ∷ [])
    ∷ Block kind.Event (Assigned (quotes (codes "name") (codes "n")) ∷ Assigned (counts (codes "id") 18446744073709551615) ∷ Assigned (counts (codes "stream_id") 18446744073709551615) ∷ [])
    ∷ []

pub id_largest_faults : told id_largest ≡ []
id_largest_faults = refl

pub id_largest_class : class_of_text id_largest ≡ Some (trace None None None (stream 18446744073709551615 None None None None (event None 18446744073709551615 (codes "n") None (made 1 1 1 (class.Structure [])) ∷ []) ∷ []))
id_largest_class = refl

-- trace { major = 1; minor = 8; byte_order = le; }; stream { id = +0x10; event.context := struct { string a; }; };
-- event { name = "n"; stream_id = 020; context := struct { string b; }; };
abbrev pub event_context_class : List Declaration
event_context_class =
    le_trace
    ∷ Block kind.Stream (Assigned (counts (codes "id") 16) ∷ Classed (codes "event" ∷ codes "context" ∷ []) (structure (field (String []) (codes "a") ∷ [])) ∷ [])
    ∷ Block kind.Event (Assigned (quotes (codes "name") (codes "n")) ∷ Assigned (counts (codes "stream_id") 16) ∷ Classed (codes "context" ∷ []) (structure (field (String []) (codes "b") ∷ [])) ∷ [])
    ∷ []

pub event_context_class_faults : told event_context_class ≡ []
event_context_class_faults = refl

pub event_context_class_class : class_of_text event_context_class ≡ Some (trace None None None (stream 16 None None (Some (made 8 2 2 (class.Structure (member (codes "a") (made 8 1 1 class.String) ∷ [])))) None (event None 0 (codes "n") (Some (made 8 2 2 (class.Structure (member (codes "b") (made 8 1 1 class.String) ∷ [])))) (made 1 1 1 (class.Structure [])) ∷ []) ∷ []))
event_context_class_class = refl

-- trace { major = 1; minor = 8; byte_order = le; struct x { integer { size = 8; } a; }; packet.header := struct {
-- struct x b; }; }; stream { struct x { string c; }; event.context := struct { struct x b; }; };
abbrev pub names_in_trace : List Declaration
names_in_trace =
    Block kind.Trace (Assigned (counts (codes "major") 1) ∷ Assigned (counts (codes "minor") 8) ∷ Assigned (says (codes "byte_order") (codes "le")) ∷ Declared (Compound (Struct (Some (codes "x")) (items_from (field (sized 8) (codes "a") ∷ [])) None)) ∷ Classed (codes "packet" ∷ codes "header" ∷ []) (structure (field (Named (name.Struct (codes "x")) None) (codes "b") ∷ [])) ∷ [])
    ∷ Block kind.Stream (Declared (Compound (Struct (Some (codes "x")) (items_from (field (String []) (codes "c") ∷ [])) None)) ∷ Classed (codes "event" ∷ codes "context" ∷ []) (structure (field (Named (name.Struct (codes "x")) None) (codes "b") ∷ [])) ∷ [])
    ∷ []

pub names_in_trace_faults : told names_in_trace ≡ []
names_in_trace_faults = refl

pub names_in_trace_class : class_of_text names_in_trace ≡ Some (trace None None (Some (made 8 3 3 (class.Structure (member (codes "b") (made 8 2 2 (class.Structure (member (codes "a") (unsigned 8 8) ∷ []))) ∷ [])))) (stream 0 None None (Some (made 8 3 3 (class.Structure (member (codes "b") (made 8 2 2 (class.Structure (member (codes "c") (made 8 1 1 class.String) ∷ []))) ∷ [])))) None [] ∷ []))
names_in_trace_class = refl

-- trace { major = 1; minor = 8; byte_order = le; }; event { name = "n"; fields := floating_point { }; };
abbrev pub fields_float : List Declaration
fields_float =
    le_trace
    ∷ Block kind.Event (Assigned (quotes (codes "name") (codes "n")) ∷ Classed (codes "fields" ∷ []) (Float []) ∷ [])
    ∷ []

pub fields_float_faults : told fields_float ≡ Attribute ∷ FloatingPoint ∷ []
fields_float_faults = refl

-- trace { major = 1; minor = 8; byte_order = le; }; typealias floating_point { } := f; event { name = "n"; fields :=
-- enum : f { A }; };
abbrev pub fields_enum_float : List Declaration
fields_enum_float =
    le_trace
    ∷ Names (Alias (Float []) (codes "f" ∷ []))
    ∷ Block kind.Event (Assigned (quotes (codes "name") (codes "n")) ∷ Classed (codes "fields" ∷ []) (Enum None (Some (container_named (codes "f" ∷ []))) (bare (codes "A") ∷ [])) ∷ [])
    ∷ []

pub fields_enum_float_faults : told fields_enum_float ≡ Attribute ∷ []
fields_enum_float_faults = refl

-- trace { major = 1; minor = 8; byte_order = le; }; stream { id = 1; }; stream { id = 1; };
abbrev pub streams_one_id : List Declaration
streams_one_id =
    le_trace
    ∷ Block kind.Stream (Assigned (counts (codes "id") 1) ∷ [])
    ∷ Block kind.Stream (Assigned (counts (codes "id") 1) ∷ [])
    ∷ []

pub streams_one_id_faults : told streams_one_id ≡ Twice ∷ []
streams_one_id_faults = refl

-- trace { major = 1; minor = 8; byte_order = le; }; stream { }; stream { id = 0; };
abbrev pub streams_id_0 : List Declaration
streams_id_0 =
    le_trace
    ∷ Block kind.Stream []
    ∷ Block kind.Stream (Assigned (counts (codes "id") 0) ∷ [])
    ∷ []

pub streams_id_0_faults : told streams_id_0 ≡ Twice ∷ []
streams_id_0_faults = refl

-- trace { major = 1; minor = 8; byte_order = le; }; stream { }; stream { id = "0"; };
abbrev pub stream_id_faulty : List Declaration
stream_id_faulty =
    le_trace
    ∷ Block kind.Stream []
    ∷ Block kind.Stream (Assigned (quotes (codes "id") (codes "0")) ∷ [])
    ∷ []

pub stream_id_faulty_faults : told stream_id_faulty ≡ Attribute ∷ []
stream_id_faulty_faults = refl

-- trace { major = 1; minor = 8; byte_order = le; }; stream { id = -1; };
abbrev pub stream_id_minus : List Declaration
stream_id_minus =
    le_trace
    ∷ Block kind.Stream (Assigned (set (codes "id" ∷ []) (value.Number (minus 1))) ∷ [])
    ∷ []

pub stream_id_minus_faults : told stream_id_minus ≡ Attribute ∷ []
stream_id_minus_faults = refl

-- trace { major = 1; minor = 8; byte_order = le; }; event { id = 1; };
abbrev pub event_no_name : List Declaration
event_no_name =
    le_trace
    ∷ Block kind.Event (Assigned (counts (codes "id") 1) ∷ [])
    ∷ []

pub event_no_name_faults : told event_no_name ≡ Attribute ∷ []
event_no_name_faults = refl

-- trace { major = 1; minor = 8; byte_order = le; }; event { name = 5; };
abbrev pub event_name_number : List Declaration
event_name_number =
    le_trace
    ∷ Block kind.Event (Assigned (counts (codes "name") 5) ∷ [])
    ∷ []

pub event_name_number_faults : told event_name_number ≡ Attribute ∷ []
event_name_number_faults = refl

-- trace { major = 1; minor = 8; byte_order = le; }; event { name := struct { }; };
abbrev pub event_name_class : List Declaration
event_name_class =
    le_trace
    ∷ Block kind.Event (Classed (codes "name" ∷ []) (structure []) ∷ [])
    ∷ []

pub event_name_class_faults : told event_name_class ≡ Attribute ∷ []
event_name_class_faults = refl

-- trace { major = 1; minor = 8; byte_order = le; }; event { name = a.b; loglevel = 3; loglevel = 4; };
abbrev pub event_name_word : List Declaration
event_name_word =
    le_trace
    ∷ Block kind.Event (Assigned (set (codes "name" ∷ []) (value.Name (codes "a" ∷ codes "b" ∷ []))) ∷ Assigned (counts (codes "loglevel") 3) ∷ Assigned (counts (codes "loglevel") 4) ∷ [])
    ∷ []

pub event_name_word_faults : told event_name_word ≡ []
event_name_word_faults = refl

pub event_name_word_class : class_of_text event_name_word ≡ Some (trace None None None (stream 0 None None None None (event None 0 (codes "a.b") None (made 1 1 1 (class.Structure [])) ∷ []) ∷ []))
event_name_word_class = refl

-- trace { major = 1; minor = 8; byte_order = le; }; event { name = "n"; id = 1; id = 1; };
abbrev pub event_twice_id : List Declaration
event_twice_id =
    le_trace
    ∷ Block kind.Event (Assigned (quotes (codes "name") (codes "n")) ∷ Assigned (counts (codes "id") 1) ∷ Assigned (counts (codes "id") 1) ∷ [])
    ∷ []

pub event_twice_id_faults : told event_twice_id ≡ Attribute ∷ []
event_twice_id_faults = refl

-- trace { major = 1; minor = 8; byte_order = le; }; stream { id = 1; }; event { name = "n"; stream_id = 2; };
abbrev pub event_missing_stream : List Declaration
event_missing_stream =
    le_trace
    ∷ Block kind.Stream (Assigned (counts (codes "id") 1) ∷ [])
    ∷ Block kind.Event (Assigned (quotes (codes "name") (codes "n")) ∷ Assigned (counts (codes "stream_id") 2) ∷ [])
    ∷ []

pub event_missing_stream_faults : told event_missing_stream ≡ Attribute ∷ []
event_missing_stream_faults = refl

-- trace { major = 1; minor = 8; byte_order = le; }; stream { id = 1; }; stream { id = 2; }; event { name = "n"; };
abbrev pub event_without_stream_id : List Declaration
event_without_stream_id =
    le_trace
    ∷ Block kind.Stream (Assigned (counts (codes "id") 1) ∷ [])
    ∷ Block kind.Stream (Assigned (counts (codes "id") 2) ∷ [])
    ∷ Block kind.Event (Assigned (quotes (codes "name") (codes "n")) ∷ [])
    ∷ []

pub event_without_stream_id_faults : told event_without_stream_id ≡ Attribute ∷ []
event_without_stream_id_faults = refl

-- trace { major = 1; minor = 8; byte_order = le; }; stream { id = 7; }; event { name = "n"; };
abbrev pub event_only_stream : List Declaration
event_only_stream =
    le_trace
    ∷ Block kind.Stream (Assigned (counts (codes "id") 7) ∷ [])
    ∷ Block kind.Event (Assigned (quotes (codes "name") (codes "n")) ∷ [])
    ∷ []

pub event_only_stream_faults : told event_only_stream ≡ []
event_only_stream_faults = refl

pub event_only_stream_class : class_of_text event_only_stream ≡ Some (trace None None None (stream 7 None None None None (event None 0 (codes "n") None (made 1 1 1 (class.Structure [])) ∷ []) ∷ []))
event_only_stream_class = refl

-- trace { major = 1; minor = 8; byte_order = le; }; event { name = "n"; stream_id = 0; };
abbrev pub event_implied_stream : List Declaration
event_implied_stream =
    le_trace
    ∷ Block kind.Event (Assigned (quotes (codes "name") (codes "n")) ∷ Assigned (counts (codes "stream_id") 0) ∷ [])
    ∷ []

pub event_implied_stream_faults : told event_implied_stream ≡ []
event_implied_stream_faults = refl

pub event_implied_stream_class : class_of_text event_implied_stream ≡ denotes_fields (made 1 1 1 (class.Structure []))
event_implied_stream_class = refl

-- trace { major = 1; minor = 8; byte_order = le; }; event { name = "n"; stream_id = 1; };
abbrev pub event_implied_other : List Declaration
event_implied_other =
    le_trace
    ∷ Block kind.Event (Assigned (quotes (codes "name") (codes "n")) ∷ Assigned (counts (codes "stream_id") 1) ∷ [])
    ∷ []

pub event_implied_other_faults : told event_implied_other ≡ Attribute ∷ []
event_implied_other_faults = refl

-- trace { major = 1; minor = 8; byte_order = le; }; event { name = "n"; }; event { name = "m"; id = 0; };
abbrev pub events_one_id : List Declaration
events_one_id =
    le_trace
    ∷ Block kind.Event (Assigned (quotes (codes "name") (codes "n")) ∷ [])
    ∷ Block kind.Event (Assigned (quotes (codes "name") (codes "m")) ∷ Assigned (counts (codes "id") 0) ∷ [])
    ∷ []

pub events_one_id_faults : told events_one_id ≡ Twice ∷ []
events_one_id_faults = refl

-- trace { major = 1; minor = 8; byte_order = le; }; stream { id = 1; }; stream { id = 2; }; event { name = "n";
-- stream_id = 1; }; event { name = "m"; stream_id = 2; };
abbrev pub events_one_id_two_streams : List Declaration
events_one_id_two_streams =
    le_trace
    ∷ Block kind.Stream (Assigned (counts (codes "id") 1) ∷ [])
    ∷ Block kind.Stream (Assigned (counts (codes "id") 2) ∷ [])
    ∷ Block kind.Event (Assigned (quotes (codes "name") (codes "n")) ∷ Assigned (counts (codes "stream_id") 1) ∷ [])
    ∷ Block kind.Event (Assigned (quotes (codes "name") (codes "m")) ∷ Assigned (counts (codes "stream_id") 2) ∷ [])
    ∷ []

pub events_one_id_two_streams_faults : told events_one_id_two_streams ≡ []
events_one_id_two_streams_faults = refl

pub events_one_id_two_streams_class : class_of_text events_one_id_two_streams ≡ Some (trace None None None (stream 1 None None None None (event None 0 (codes "n") None (made 1 1 1 (class.Structure [])) ∷ []) ∷ stream 2 None None None None (event None 0 (codes "m") None (made 1 1 1 (class.Structure [])) ∷ []) ∷ []))
events_one_id_two_streams_class = refl

-- event { name = "n"; stream_id = 3; fields := struct { string s[k]; }; }; stream { id = 3; packet.context := struct {
-- integer { size = 8; } k; }; }; trace { major = 1; minor = 8; byte_order = le; };
abbrev pub event_before_stream : List Declaration
event_before_stream =
    Block kind.Event (Assigned (quotes (codes "name") (codes "n")) ∷ Assigned (counts (codes "stream_id") 3) ∷ Classed (codes "fields" ∷ []) (structure (Fields (String []) (declarator (codes "s") (lengths.Path (codes "k" ∷ []) ∷ []) ∷ []) ∷ [])) ∷ [])
    ∷ Block kind.Stream (Assigned (counts (codes "id") 3) ∷ Classed (codes "packet" ∷ codes "context" ∷ []) (structure (field (sized 8) (codes "k") ∷ [])) ∷ [])
    ∷ le_trace
    ∷ []

pub event_before_stream_faults : told event_before_stream ≡ []
event_before_stream_faults = refl

pub event_before_stream_class : class_of_text event_before_stream ≡ Some (trace None None None (stream 3 (Some (made 8 2 2 (class.Structure (member (codes "k") (unsigned 8 8) ∷ [])))) None None None (event None 0 (codes "n") None (made 8 3 3 (class.Structure (member (codes "s") (made 8 2 2 (class.Array (counted (before PacketContext (0 ∷ []))) (made 8 1 1 class.String))) ∷ []))) ∷ []) ∷ []))
event_before_stream_class = refl

-- trace { major = 1; minor = 8; byte_order = le; }; event { name = "n"; stream_id = 5; fields := struct { string s[k];
-- integer { size = 8; map = clock.q.value; } x; }; };
abbrev pub unknown_stream_and_path : List Declaration
unknown_stream_and_path =
    le_trace
    ∷ Block kind.Event (Assigned (quotes (codes "name") (codes "n")) ∷ Assigned (counts (codes "stream_id") 5) ∷ Classed (codes "fields" ∷ []) (structure (Fields (String []) (declarator (codes "s") (lengths.Path (codes "k" ∷ []) ∷ []) ∷ []) ∷ field (Integer (counts (codes "size") 8 ∷ set (codes "map" ∷ []) (value.Name (codes "clock" ∷ codes "q" ∷ codes "value" ∷ [])) ∷ [])) (codes "x") ∷ [])) ∷ [])
    ∷ []

pub unknown_stream_and_path_faults : told unknown_stream_and_path ≡ Attribute ∷ LengthOrTag ∷ Clock ∷ []
unknown_stream_and_path_faults = refl

-- trace { major = 1; minor = 8; byte_order = le; packet.header := struct { integer { size = 8; } k; }; }; event { name
-- = "n"; stream_id = 5; fields := struct { string s[k]; }; };
abbrev pub unknown_stream_header : List Declaration
unknown_stream_header =
    Block kind.Trace (Assigned (counts (codes "major") 1) ∷ Assigned (counts (codes "minor") 8) ∷ Assigned (says (codes "byte_order") (codes "le")) ∷ Classed (codes "packet" ∷ codes "header" ∷ []) (structure (field (sized 8) (codes "k") ∷ [])) ∷ [])
    ∷ Block kind.Event (Assigned (quotes (codes "name") (codes "n")) ∷ Assigned (counts (codes "stream_id") 5) ∷ Classed (codes "fields" ∷ []) (structure (Fields (String []) (declarator (codes "s") (lengths.Path (codes "k" ∷ []) ∷ []) ∷ []) ∷ [])) ∷ [])
    ∷ []

pub unknown_stream_header_faults : told unknown_stream_header ≡ Attribute ∷ []
unknown_stream_header_faults = refl

-- trace { major = 1; minor = 8; byte_order = le; }; event { name = "n"; stream_id = 5; }; struct x { t a; };
abbrev pub own_before_link : List Declaration
own_before_link =
    le_trace
    ∷ Block kind.Event (Assigned (quotes (codes "name") (codes "n")) ∷ Assigned (counts (codes "stream_id") 5) ∷ [])
    ∷ Names (Compound (Struct (Some (codes "x")) (items_from (field (named (codes "t")) (codes "a") ∷ [])) None))
    ∷ []

pub own_before_link_faults : told own_before_link ≡ UnknownType ∷ []
own_before_link_faults = refl

-- trace { major = 1; minor = 8; byte_order = le; }; event { name = "n"; fields := struct { string s[k]; }; }; event {
-- name = "m"; };
abbrev pub first_link : List Declaration
first_link =
    le_trace
    ∷ event_with (Fields (String []) (declarator (codes "s") (lengths.Path (codes "k" ∷ []) ∷ []) ∷ []) ∷ [])
    ∷ Block kind.Event (Assigned (quotes (codes "name") (codes "m")) ∷ [])
    ∷ []

pub first_link_faults : told first_link ≡ LengthOrTag ∷ []
first_link_faults = refl

-- event { name = "n"; fields := struct { string s[k]; }; };
abbrev pub link_before_whole : List Declaration
link_before_whole =
    event_with (Fields (String []) (declarator (codes "s") (lengths.Path (codes "k" ∷ []) ∷ []) ∷ []) ∷ [])
    ∷ []

pub link_before_whole_faults : told link_before_whole ≡ LengthOrTag ∷ []
link_before_whole_faults = refl

-- event { name = "n"; };
abbrev pub no_trace : List Declaration
no_trace =
    Block kind.Event (Assigned (quotes (codes "name") (codes "n")) ∷ [])
    ∷ []

pub no_trace_faults : told no_trace ≡ Attribute ∷ []
no_trace_faults = refl

-- clock { name = "a"; }; clock { name = "b"; }; stream { event.header := struct { integer { size = 8; map =
-- clock.a.value; } x; integer { size = 8; map = clock.b.value; } y; }; };
abbrev pub no_trace_two_clocks : List Declaration
no_trace_two_clocks =
    clock_named (codes "a")
    ∷ clock_named (codes "b")
    ∷ Block kind.Stream (Classed (codes "event" ∷ codes "header" ∷ []) (structure (field (Integer (counts (codes "size") 8 ∷ set (codes "map" ∷ []) (value.Name (codes "clock" ∷ codes "a" ∷ codes "value" ∷ [])) ∷ [])) (codes "x") ∷ field (Integer (counts (codes "size") 8 ∷ set (codes "map" ∷ []) (value.Name (codes "clock" ∷ codes "b" ∷ codes "value" ∷ [])) ∷ [])) (codes "y") ∷ [])) ∷ [])
    ∷ []

pub no_trace_two_clocks_faults : told no_trace_two_clocks ≡ Attribute ∷ Clock ∷ []
no_trace_two_clocks_faults = refl

-- trace { major = 1; minor = 8; byte_order = le; }; clock { name = "a"; }; clock { name = a; };
abbrev pub clocks_one_name : List Declaration
clocks_one_name =
    le_trace
    ∷ clock_named (codes "a")
    ∷ Table table.Clock (says (codes "name") (codes "a") ∷ [])
    ∷ []

pub clocks_one_name_faults : told clocks_one_name ≡ Twice ∷ []
clocks_one_name_faults = refl

-- trace { major = 1; minor = 8; byte_order = le; }; clock { freq = 5; };
abbrev pub clock_no_name : List Declaration
clock_no_name =
    le_trace
    ∷ Table table.Clock (counts (codes "freq") 5 ∷ [])
    ∷ []

pub clock_no_name_faults : told clock_no_name ≡ Attribute ∷ []
clock_no_name_faults = refl

-- trace { major = 1; minor = 8; byte_order = le; }; clock { name = ""; }; clock { name = 5; };
abbrev pub clock_name_faulty : List Declaration
clock_name_faulty =
    le_trace
    ∷ clock_named (codes "")
    ∷ Table table.Clock (counts (codes "name") 5 ∷ [])
    ∷ []

pub clock_name_faulty_faults : told clock_name_faulty ≡ Attribute ∷ []
clock_name_faulty_faults = refl

-- trace { major = 1; minor = 8; byte_order = le; }; clock { name = "a"; freq = 0; };
abbrev pub clock_freq_0 : List Declaration
clock_freq_0 =
    le_trace
    ∷ Table table.Clock (quotes (codes "name") (codes "a") ∷ counts (codes "freq") 0 ∷ [])
    ∷ []

pub clock_freq_0_faults : told clock_freq_0 ≡ Attribute ∷ []
clock_freq_0_faults = refl

-- clock { name = "a"; freq = 18446744073709551615; offset_s = -9223372036854775808; offset = 9223372036854775807; uuid
-- = 5; uuid = 6; };trace { major = 1; minor = 8; byte_order = le; }; stream { event.header := ..
abbrev pub clock_freq_max : List Declaration
clock_freq_max =
    Table table.Clock (quotes (codes "name") (codes "a") ∷ counts (codes "freq") 18446744073709551615 ∷ set (codes "offset_s" ∷ []) (value.Number (minus 9223372036854775808)) ∷ counts (codes "offset") 9223372036854775807 ∷ counts (codes "uuid") 5 ∷ counts (codes "uuid") 6 ∷ [])
    ∷ le_trace
    ∷ Block kind.Stream (Classed (codes "event" ∷ codes "header" ∷ []) (structure (field (Integer (counts (codes "size") 8 ∷ set (codes "map" ∷ []) (value.Name (codes "clock" ∷ codes "a" ∷ codes "value" ∷ [])) ∷ [])) (codes "x") ∷ [])) ∷ [])
    ∷ []

pub clock_freq_max_faults : told clock_freq_max ≡ []
unfolding by_index
clock_freq_max_faults = refl

pub clock_freq_max_class : class_of_text clock_freq_max ≡ Some (trace None None None (stream 0 None (Some (made 8 2 2 (class.Structure (member (codes "x") (made 8 1 1 (class.Integer (number 8 false base.Decimal Le true))) ∷ [])))) None (Some (clock (codes "a") 18446744073709551615 (negsuc 9223372036854775807) (pos 9223372036854775807))) [] ∷ []))
unfolding by_index
clock_freq_max_class = refl

-- trace { major = 1; minor = 8; byte_order = le; }; clock { name = "a"; offset = 9223372036854775808; };
abbrev pub clock_offset_far : List Declaration
clock_offset_far =
    le_trace
    ∷ Table table.Clock (quotes (codes "name") (codes "a") ∷ counts (codes "offset") 9223372036854775808 ∷ [])
    ∷ []

pub clock_offset_far_faults : told clock_offset_far ≡ Attribute ∷ []
clock_offset_far_faults = refl

-- trace { major = 1; minor = 8; byte_order = le; }; clock { name = "a"; offset_s = far; };
abbrev pub clock_offset_word : List Declaration
clock_offset_word =
    le_trace
    ∷ Table table.Clock (quotes (codes "name") (codes "a") ∷ says (codes "offset_s") (codes "far") ∷ [])
    ∷ []

pub clock_offset_word_faults : told clock_offset_word ≡ Attribute ∷ []
clock_offset_word_faults = refl

-- trace { major = 1; minor = 8; byte_order = le; }; clock { name = "a"; offset = 1; offset = 1; };
abbrev pub clock_twice : List Declaration
clock_twice =
    le_trace
    ∷ Table table.Clock (quotes (codes "name") (codes "a") ∷ counts (codes "offset") 1 ∷ counts (codes "offset") 1 ∷ [])
    ∷ []

pub clock_twice_faults : told clock_twice ≡ Attribute ∷ []
clock_twice_faults = refl

-- trace { major = 1; minor = 8; byte_order = le; }; env { hostname = "a"; }; env { x = 5; hostname = "b"; };
abbrev pub host_last : List Declaration
host_last =
    le_trace
    ∷ Table table.Env (quotes (codes "hostname") (codes "a") ∷ [])
    ∷ Table table.Env (counts (codes "x") 5 ∷ quotes (codes "hostname") (codes "b") ∷ [])
    ∷ []

pub host_last_faults : told host_last ≡ []
host_last_faults = refl

pub host_last_class : class_of_text host_last ≡ Some (trace None (Some (codes "b")) None (stream 0 None None None None [] ∷ []))
host_last_class = refl

-- trace { major = 1; minor = 8; byte_order = le; }; env { hostname = "a"; }; env { hostname = b; };
abbrev pub host_last_word : List Declaration
host_last_word =
    le_trace
    ∷ Table table.Env (quotes (codes "hostname") (codes "a") ∷ [])
    ∷ Table table.Env (says (codes "hostname") (codes "b") ∷ [])
    ∷ []

pub host_last_word_faults : told host_last_word ≡ []
host_last_word_faults = refl

pub host_last_word_class : class_of_text host_last_word ≡ Some (trace None None None (stream 0 None None None None [] ∷ []))
host_last_word_class = refl

-- trace { major = 1; minor = 8; byte_order = le; }; env { hostname = ""; };
abbrev pub host_empty : List Declaration
host_empty =
    le_trace
    ∷ Table table.Env (quotes (codes "hostname") (codes "") ∷ [])
    ∷ []

pub host_empty_faults : told host_empty ≡ []
host_empty_faults = refl

pub host_empty_class : class_of_text host_empty ≡ Some (trace None (Some (codes "")) None (stream 0 None None None None [] ∷ []))
host_empty_class = refl

-- trace { major = 1; minor = 8; byte_order = le; }; env { hostname.x = "a"; };
abbrev pub host_dotted : List Declaration
host_dotted =
    le_trace
    ∷ Table table.Env (set (codes "hostname" ∷ codes "x" ∷ []) (value.Text (codes "a")) ∷ [])
    ∷ []

pub host_dotted_faults : told host_dotted ≡ []
host_dotted_faults = refl

pub host_dotted_class : class_of_text host_dotted ≡ Some (trace None None None (stream 0 None None None None [] ∷ []))
host_dotted_class = refl

-- trace { major = 1; minor = 8; byte_order = le; }; callsite { name = 1; name = 2; };
abbrev pub callsite_names : List Declaration
callsite_names =
    le_trace
    ∷ Table table.Callsite (counts (codes "name") 1 ∷ counts (codes "name") 2 ∷ [])
    ∷ []

pub callsite_names_faults : told callsite_names ≡ []
callsite_names_faults = refl

pub callsite_names_class : class_of_text callsite_names ≡ Some (trace None None None (stream 0 None None None None [] ∷ []))
callsite_names_class = refl
