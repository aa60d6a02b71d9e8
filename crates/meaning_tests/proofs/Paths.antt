-- What paths find.
use Rattle.std.specs.Prelude.{◌≡◌, false, List, [], ◌∷◌, Some, None, pos, codes, refl}
use Rattle.tsdl_tree.specs.declared.tree.BlockKind.TheVariants as kind
use Rattle.tsdl_tree.specs.declared.tree.Container.TheVariants as container
use Rattle.tsdl_tree.specs.declared.tree.Length.TheVariants as lengths
use Rattle.ctf_bits.specs.declared.number.Order.TheVariants.{Le}
use Rattle.ctf_class.specs.declared.class.Kind.TheVariants as class
use Rattle.ctf_class.specs.declared.integer.Base.TheVariants as base
use Rattle.ctf_class.specs.declared.route.Scope.TheVariants.{PacketHeader, PacketContext, EventHeader, EventContext}
use Rattle.ctf_meaning.specs.declared.fault.ResolveFault.TheVariants.{LengthOrTag}
use Rattle.ctf_meaning.specs.Name as name
use Rattle.ctf_meaning.specs.Written.{Declaration, Block, Names, Assigned, Classed, Integer, String, Struct, Variant, Enum, Named, Fields, Compound, items_from}
use Rattle.ctf_meaning.specs.Denotes.{class_of_text}
use Rattle.meaning_tests.proofs.Writing.{le_trace, event_with, denotes_fields, counts, says, quotes, sized, structure, field, declarator, bare, number, unsigned, fixed, counted, inside, before, covers, choice, made, member, event, stream, trace, told}

-- trace { major = 1; minor = 8; byte_order = le; }; event { name = "n"; fields := struct { integer { size = 8; } n;
-- struct { string n; string s[n]; } x; }; };
abbrev pub path_first_hit : List Declaration
path_first_hit =
    le_trace
    ∷ event_with (field (sized 8) (codes "n") ∷ field (structure (field (String []) (codes "n") ∷ Fields (String []) (declarator (codes "s") (lengths.Path (codes "n" ∷ []) ∷ []) ∷ []) ∷ [])) (codes "x") ∷ [])
    ∷ []

pub path_first_hit_faults : told path_first_hit ≡ LengthOrTag ∷ []
path_first_hit_faults = refl

-- trace { major = 1; minor = 8; byte_order = le; }; event { name = "n"; fields := struct { integer { size = 8; } n;
-- struct { string s[n]; } x; }; };
abbrev pub path_inner_to_outer : List Declaration
path_inner_to_outer =
    le_trace
    ∷ event_with (field (sized 8) (codes "n") ∷ field (structure (Fields (String []) (declarator (codes "s") (lengths.Path (codes "n" ∷ []) ∷ []) ∷ []) ∷ [])) (codes "x") ∷ [])
    ∷ []

pub path_inner_to_outer_faults : told path_inner_to_outer ≡ []
path_inner_to_outer_faults = refl

pub path_inner_to_outer_class : class_of_text path_inner_to_outer ≡ denotes_fields (made 8 4 5 (class.Structure (member (codes "n") (unsigned 8 8) ∷ member (codes "x") (made 8 3 3 (class.Structure (member (codes "s") (made 8 2 2 (class.Array (counted (inside 1 (0 ∷ []))) (made 8 1 1 class.String))) ∷ []))) ∷ [])))
path_inner_to_outer_class = refl

-- trace { major = 1; minor = 8; byte_order = le; }; stream { packet.context := struct { integer { size = 8; } n; };
-- event.header := struct { integer { size = 16; } n; }; event.context := struct { string s[n]; }; };
abbrev pub path_earlier_scope : List Declaration
path_earlier_scope =
    le_trace
    ∷ Block kind.Stream (Classed (codes "packet" ∷ codes "context" ∷ []) (structure (field (sized 8) (codes "n") ∷ [])) ∷ Classed (codes "event" ∷ codes "header" ∷ []) (structure (field (sized 16) (codes "n") ∷ [])) ∷ Classed (codes "event" ∷ codes "context" ∷ []) (structure (Fields (String []) (declarator (codes "s") (lengths.Path (codes "n" ∷ []) ∷ []) ∷ []) ∷ [])) ∷ [])
    ∷ []

pub path_earlier_scope_faults : told path_earlier_scope ≡ []
path_earlier_scope_faults = refl

pub path_earlier_scope_class : class_of_text path_earlier_scope ≡ Some (trace None None None (stream 0 (Some (made 8 2 2 (class.Structure (member (codes "n") (unsigned 8 8) ∷ [])))) (Some (made 8 2 2 (class.Structure (member (codes "n") (unsigned 16 8) ∷ [])))) (Some (made 8 3 3 (class.Structure (member (codes "s") (made 8 2 2 (class.Array (counted (before EventHeader (0 ∷ []))) (made 8 1 1 class.String))) ∷ [])))) None [] ∷ []))
path_earlier_scope_class = refl

-- trace { major = 1; minor = 8; byte_order = le; }; event { name = "n"; context := struct { struct { integer { size =
-- 8; } k; } n; }; fields := struct { string s[n.k]; string t[event.context.n.k]; }; };
abbrev pub path_context_before_header : List Declaration
path_context_before_header =
    le_trace
    ∷ Block kind.Event (Assigned (quotes (codes "name") (codes "n")) ∷ Classed (codes "context" ∷ []) (structure (field (structure (field (sized 8) (codes "k") ∷ [])) (codes "n") ∷ [])) ∷ Classed (codes "fields" ∷ []) (structure (Fields (String []) (declarator (codes "s") (lengths.Path (codes "n" ∷ codes "k" ∷ []) ∷ []) ∷ []) ∷ Fields (String []) (declarator (codes "t") (lengths.Path (codes "event" ∷ codes "context" ∷ codes "n" ∷ codes "k" ∷ []) ∷ []) ∷ []) ∷ [])) ∷ [])
    ∷ []

pub path_context_before_header_faults : told path_context_before_header ≡ []
path_context_before_header_faults = refl

pub path_context_before_header_class : class_of_text path_context_before_header ≡ Some (trace None None None (stream 0 None None None None (event None 0 (codes "n") (Some (made 8 3 3 (class.Structure (member (codes "n") (made 8 2 2 (class.Structure (member (codes "k") (unsigned 8 8) ∷ []))) ∷ [])))) (made 8 3 5 (class.Structure (member (codes "s") (made 8 2 2 (class.Array (counted (before EventContext (0 ∷ 0 ∷ []))) (made 8 1 1 class.String))) ∷ member (codes "t") (made 8 2 2 (class.Array (counted (before EventContext (0 ∷ 0 ∷ []))) (made 8 1 1 class.String))) ∷ []))) ∷ []) ∷ []))
path_context_before_header_class = refl

-- trace { major = 1; minor = 8; byte_order = le; }; event { name = "n"; fields := struct { struct { integer { size = 8;
-- } n; string s[event.fields.x.n]; } x; }; };
abbrev pub path_absolute_open : List Declaration
path_absolute_open =
    le_trace
    ∷ event_with (field (structure (field (sized 8) (codes "n") ∷ Fields (String []) (declarator (codes "s") (lengths.Path (codes "event" ∷ codes "fields" ∷ codes "x" ∷ codes "n" ∷ []) ∷ []) ∷ []) ∷ [])) (codes "x") ∷ [])
    ∷ []

pub path_absolute_open_faults : told path_absolute_open ≡ []
path_absolute_open_faults = refl

pub path_absolute_open_class : class_of_text path_absolute_open ≡ denotes_fields (made 8 4 5 (class.Structure (member (codes "x") (made 8 3 4 (class.Structure (member (codes "n") (unsigned 8 8) ∷ member (codes "s") (made 8 2 2 (class.Array (counted (inside 0 (0 ∷ []))) (made 8 1 1 class.String))) ∷ []))) ∷ [])))
path_absolute_open_class = refl

-- trace { major = 1; minor = 8; byte_order = le; }; event { name = "n"; fields := struct { struct { integer { size = 8;
-- } n; string s[x.n]; } x; }; };
abbrev pub path_relative_open : List Declaration
path_relative_open =
    le_trace
    ∷ event_with (field (structure (field (sized 8) (codes "n") ∷ Fields (String []) (declarator (codes "s") (lengths.Path (codes "x" ∷ codes "n" ∷ []) ∷ []) ∷ []) ∷ [])) (codes "x") ∷ [])
    ∷ []

pub path_relative_open_faults : told path_relative_open ≡ LengthOrTag ∷ []
path_relative_open_faults = refl

-- trace { major = 1; minor = 8; byte_order = le; }; event { name = "n"; fields := struct { string s[event.fields.n];
-- integer { size = 8; } n; }; };
abbrev pub path_absolute_later : List Declaration
path_absolute_later =
    le_trace
    ∷ event_with (Fields (String []) (declarator (codes "s") (lengths.Path (codes "event" ∷ codes "fields" ∷ codes "n" ∷ []) ∷ []) ∷ []) ∷ field (sized 8) (codes "n") ∷ [])
    ∷ []

pub path_absolute_later_faults : told path_absolute_later ≡ LengthOrTag ∷ []
path_absolute_later_faults = refl

-- trace { major = 1; minor = 8; byte_order = le; }; event { name = "n"; fields := struct { string s[s]; }; };
abbrev pub path_own_sequence : List Declaration
path_own_sequence =
    le_trace
    ∷ event_with (Fields (String []) (declarator (codes "s") (lengths.Path (codes "s" ∷ []) ∷ []) ∷ []) ∷ [])
    ∷ []

pub path_own_sequence_faults : told path_own_sequence ≡ LengthOrTag ∷ []
path_own_sequence_faults = refl

-- trace { major = 1; minor = 8; byte_order = le; }; event { name = "n"; fields := struct { struct { integer { size = 8;
-- } n; } a; struct { struct { string b; } a; string s[a.n]; } x; }; };
abbrev pub path_deeper_first_word : List Declaration
path_deeper_first_word =
    le_trace
    ∷ event_with (field (structure (field (sized 8) (codes "n") ∷ [])) (codes "a") ∷ field (structure (field (structure (field (String []) (codes "b") ∷ [])) (codes "a") ∷ Fields (String []) (declarator (codes "s") (lengths.Path (codes "a" ∷ codes "n" ∷ []) ∷ []) ∷ []) ∷ [])) (codes "x") ∷ [])
    ∷ []

pub path_deeper_first_word_faults : told path_deeper_first_word ≡ LengthOrTag ∷ []
path_deeper_first_word_faults = refl

-- trace { major = 1; minor = 8; byte_order = le; }; event { name = "n"; fields := struct { struct { integer { size = 8;
-- } n; } a[2]; string s[a.n]; }; };
abbrev pub path_through_array : List Declaration
path_through_array =
    le_trace
    ∷ event_with (Fields (structure (field (sized 8) (codes "n") ∷ [])) (declarator (codes "a") (lengths.Constant 2 ∷ []) ∷ []) ∷ Fields (String []) (declarator (codes "s") (lengths.Path (codes "a" ∷ codes "n" ∷ []) ∷ []) ∷ []) ∷ [])
    ∷ []

pub path_through_array_faults : told path_through_array ≡ LengthOrTag ∷ []
path_through_array_faults = refl

-- trace { major = 1; minor = 8; byte_order = le; }; event { name = "n"; fields := struct { enum : integer { size = 8; }
-- { A } t; variant <t> { integer { size = 8; } A; } v; string s[v.A]; }; };
abbrev pub path_through_variant : List Declaration
path_through_variant =
    le_trace
    ∷ event_with (field (Enum None (Some (container.Integer (counts (codes "size") 8 ∷ []))) (bare (codes "A") ∷ [])) (codes "t") ∷ field (Variant None (Some (codes "t" ∷ [])) (items_from (field (sized 8) (codes "A") ∷ []))) (codes "v") ∷ Fields (String []) (declarator (codes "s") (lengths.Path (codes "v" ∷ codes "A" ∷ []) ∷ []) ∷ []) ∷ [])
    ∷ []

pub path_through_variant_faults : told path_through_variant ≡ LengthOrTag ∷ []
path_through_variant_faults = refl

-- trace { major = 1; minor = 8; byte_order = le; }; event { name = "n"; fields := struct { enum : integer { size = 8; }
-- { A, B } t; variant <t> { integer { size = 8; } A; string B[A]; } v; }; };
abbrev pub path_option_beside : List Declaration
path_option_beside =
    le_trace
    ∷ event_with (field (Enum None (Some (container.Integer (counts (codes "size") 8 ∷ []))) (bare (codes "A") ∷ bare (codes "B") ∷ [])) (codes "t") ∷ field (Variant None (Some (codes "t" ∷ [])) (items_from (field (sized 8) (codes "A") ∷ Fields (String []) (declarator (codes "B") (lengths.Path (codes "A" ∷ []) ∷ []) ∷ []) ∷ []))) (codes "v") ∷ [])
    ∷ []

pub path_option_beside_faults : told path_option_beside ≡ LengthOrTag ∷ []
path_option_beside_faults = refl

-- trace { major = 1; minor = 8; byte_order = le; }; event { name = "n"; fields := struct { enum : integer { size = 8; }
-- { A } t; integer { size = 8; } n; variant <t> { struct { integer { size = 8; } m; string q[m]; ..
abbrev pub path_from_option : List Declaration
path_from_option =
    le_trace
    ∷ event_with (field (Enum None (Some (container.Integer (counts (codes "size") 8 ∷ []))) (bare (codes "A") ∷ [])) (codes "t") ∷ field (sized 8) (codes "n") ∷ field (Variant None (Some (codes "t" ∷ [])) (items_from (field (structure (field (sized 8) (codes "m") ∷ Fields (String []) (declarator (codes "q") (lengths.Path (codes "m" ∷ []) ∷ []) ∷ []) ∷ Fields (String []) (declarator (codes "r") (lengths.Path (codes "n" ∷ []) ∷ []) ∷ []) ∷ [])) (codes "A") ∷ []))) (codes "v") ∷ [])
    ∷ []

pub path_from_option_faults : told path_from_option ≡ []
path_from_option_faults = refl

pub path_from_option_class : class_of_text path_from_option ≡ denotes_fields (made 8 5 10 (class.Structure (member (codes "t") (made 8 1 1 (class.Enumeration (number 8 false base.Decimal Le false) (covers (codes "A") (pos 0) (pos 0) ∷ []))) ∷ member (codes "n") (unsigned 8 8) ∷ member (codes "v") (made 1 4 7 (class.Variant (inside 0 (0 ∷ [])) (choice (pos 0) (pos 0) 0 ∷ []) (member (codes "A") (made 8 3 6 (class.Structure (member (codes "m") (unsigned 8 8) ∷ member (codes "q") (made 8 2 2 (class.Array (counted (inside 0 (0 ∷ []))) (made 8 1 1 class.String))) ∷ member (codes "r") (made 8 2 2 (class.Array (counted (inside 1 (1 ∷ []))) (made 8 1 1 class.String))) ∷ []))) ∷ []))) ∷ [])))
path_from_option_class = refl

-- trace { major = 1; minor = 8; byte_order = le; }; event { name = "n"; fields := struct { enum : integer { size = 8; }
-- { A } t; variant <t> { struct { integer { size = 8; } m; string q[event.fields.v.A.m]; } A; } ..
abbrev pub path_absolute_into_option : List Declaration
path_absolute_into_option =
    le_trace
    ∷ event_with (field (Enum None (Some (container.Integer (counts (codes "size") 8 ∷ []))) (bare (codes "A") ∷ [])) (codes "t") ∷ field (Variant None (Some (codes "t" ∷ [])) (items_from (field (structure (field (sized 8) (codes "m") ∷ Fields (String []) (declarator (codes "q") (lengths.Path (codes "event" ∷ codes "fields" ∷ codes "v" ∷ codes "A" ∷ codes "m" ∷ []) ∷ []) ∷ []) ∷ [])) (codes "A") ∷ []))) (codes "v") ∷ [])
    ∷ []

pub path_absolute_into_option_faults : told path_absolute_into_option ≡ LengthOrTag ∷ []
path_absolute_into_option_faults = refl

-- trace { major = 1; minor = 8; byte_order = le; }; event { name = "n"; fields := struct { struct { integer { size = 8;
-- } m; string q[event.fields.a.m]; } a[3]; }; };
abbrev pub path_absolute_into_element : List Declaration
path_absolute_into_element =
    le_trace
    ∷ event_with (Fields (structure (field (sized 8) (codes "m") ∷ Fields (String []) (declarator (codes "q") (lengths.Path (codes "event" ∷ codes "fields" ∷ codes "a" ∷ codes "m" ∷ []) ∷ []) ∷ []) ∷ [])) (declarator (codes "a") (lengths.Constant 3 ∷ []) ∷ []) ∷ [])
    ∷ []

pub path_absolute_into_element_faults : told path_absolute_into_element ≡ LengthOrTag ∷ []
path_absolute_into_element_faults = refl

-- trace { major = 1; minor = 8; byte_order = le; }; event { name = "n"; fields := struct { string s[event.fields]; };
-- };
abbrev pub path_scope_alone : List Declaration
path_scope_alone =
    le_trace
    ∷ event_with (Fields (String []) (declarator (codes "s") (lengths.Path (codes "event" ∷ codes "fields" ∷ []) ∷ []) ∷ []) ∷ [])
    ∷ []

pub path_scope_alone_faults : told path_scope_alone ≡ LengthOrTag ∷ []
path_scope_alone_faults = refl

-- trace { major = 1; minor = 8; byte_order = le; }; stream { event.header := struct { integer { size = 8; } n; };
-- event.context := struct { string s[event.header.n]; string t[n]; }; };
abbrev pub path_header_word : List Declaration
path_header_word =
    le_trace
    ∷ Block kind.Stream (Classed (codes "event" ∷ codes "header" ∷ []) (structure (field (sized 8) (codes "n") ∷ [])) ∷ Classed (codes "event" ∷ codes "context" ∷ []) (structure (Fields (String []) (declarator (codes "s") (lengths.Path (codes "event" ∷ codes "header" ∷ codes "n" ∷ []) ∷ []) ∷ []) ∷ Fields (String []) (declarator (codes "t") (lengths.Path (codes "n" ∷ []) ∷ []) ∷ []) ∷ [])) ∷ [])
    ∷ []

pub path_header_word_faults : told path_header_word ≡ LengthOrTag ∷ []
path_header_word_faults = refl

-- trace { major = 1; minor = 8; byte_order = le; }; stream { event.context := struct { integer { size = 8; } n; string
-- s[event.context.n]; }; };
abbrev pub path_event_context_in_stream : List Declaration
path_event_context_in_stream =
    le_trace
    ∷ Block kind.Stream (Classed (codes "event" ∷ codes "context" ∷ []) (structure (field (sized 8) (codes "n") ∷ Fields (String []) (declarator (codes "s") (lengths.Path (codes "event" ∷ codes "context" ∷ codes "n" ∷ []) ∷ []) ∷ []) ∷ [])) ∷ [])
    ∷ []

pub path_event_context_in_stream_faults : told path_event_context_in_stream ≡ LengthOrTag ∷ []
path_event_context_in_stream_faults = refl

-- trace { major = 1; minor = 8; byte_order = le; }; stream { event.context := struct { integer { size = 8; } n; string
-- s[stream.event.context.n]; }; };
abbrev pub path_stream_context : List Declaration
path_stream_context =
    le_trace
    ∷ Block kind.Stream (Classed (codes "event" ∷ codes "context" ∷ []) (structure (field (sized 8) (codes "n") ∷ Fields (String []) (declarator (codes "s") (lengths.Path (codes "stream" ∷ codes "event" ∷ codes "context" ∷ codes "n" ∷ []) ∷ []) ∷ []) ∷ [])) ∷ [])
    ∷ []

pub path_stream_context_faults : told path_stream_context ≡ []
path_stream_context_faults = refl

pub path_stream_context_class : class_of_text path_stream_context ≡ Some (trace None None None (stream 0 None None (Some (made 8 3 4 (class.Structure (member (codes "n") (unsigned 8 8) ∷ member (codes "s") (made 8 2 2 (class.Array (counted (inside 0 (0 ∷ []))) (made 8 1 1 class.String))) ∷ [])))) None [] ∷ []))
path_stream_context_class = refl

-- trace { major = 1; minor = 8; byte_order = le; }; stream { packet.context := struct { string
-- s[stream.event.header.n]; }; event.header := struct { integer { size = 8; } n; }; };
abbrev pub path_later_scope : List Declaration
path_later_scope =
    le_trace
    ∷ Block kind.Stream (Classed (codes "packet" ∷ codes "context" ∷ []) (structure (Fields (String []) (declarator (codes "s") (lengths.Path (codes "stream" ∷ codes "event" ∷ codes "header" ∷ codes "n" ∷ []) ∷ []) ∷ []) ∷ [])) ∷ Classed (codes "event" ∷ codes "header" ∷ []) (structure (field (sized 8) (codes "n") ∷ [])) ∷ [])
    ∷ []

pub path_later_scope_faults : told path_later_scope ≡ LengthOrTag ∷ []
path_later_scope_faults = refl

-- trace { major = 1; minor = 8; byte_order = le; packet.header := struct { integer { size = 8; } n; }; }; event { name
-- = "n"; fields := struct { string s[trace.packet.header.n]; string t[n]; }; };
abbrev pub path_packet_header : List Declaration
path_packet_header =
    Block kind.Trace (Assigned (counts (codes "major") 1) ∷ Assigned (counts (codes "minor") 8) ∷ Assigned (says (codes "byte_order") (codes "le")) ∷ Classed (codes "packet" ∷ codes "header" ∷ []) (structure (field (sized 8) (codes "n") ∷ [])) ∷ [])
    ∷ event_with (Fields (String []) (declarator (codes "s") (lengths.Path (codes "trace" ∷ codes "packet" ∷ codes "header" ∷ codes "n" ∷ []) ∷ []) ∷ []) ∷ Fields (String []) (declarator (codes "t") (lengths.Path (codes "n" ∷ []) ∷ []) ∷ []) ∷ [])
    ∷ []

pub path_packet_header_faults : told path_packet_header ≡ []
path_packet_header_faults = refl

pub path_packet_header_class : class_of_text path_packet_header ≡ Some (trace None None (Some (made 8 2 2 (class.Structure (member (codes "n") (unsigned 8 8) ∷ [])))) (stream 0 None None None None (event None 0 (codes "n") None (made 8 3 5 (class.Structure (member (codes "s") (made 8 2 2 (class.Array (counted (before PacketHeader (0 ∷ []))) (made 8 1 1 class.String))) ∷ member (codes "t") (made 8 2 2 (class.Array (counted (before PacketHeader (0 ∷ []))) (made 8 1 1 class.String))) ∷ []))) ∷ []) ∷ []))
path_packet_header_class = refl

-- trace { major = 1; minor = 8; byte_order = le; }; event { name = "n"; fields := struct { enum : integer { size = 8; }
-- { A } t; string s[t]; }; };
abbrev pub length_enum : List Declaration
length_enum =
    le_trace
    ∷ event_with (field (Enum None (Some (container.Integer (counts (codes "size") 8 ∷ []))) (bare (codes "A") ∷ [])) (codes "t") ∷ Fields (String []) (declarator (codes "s") (lengths.Path (codes "t" ∷ []) ∷ []) ∷ []) ∷ [])
    ∷ []

pub length_enum_faults : told length_enum ≡ LengthOrTag ∷ []
length_enum_faults = refl

-- trace { major = 1; minor = 8; byte_order = le; }; event { name = "n"; fields := struct { integer { size = 8; } t;
-- variant <t> { string A; } v; }; };
abbrev pub tag_integer : List Declaration
tag_integer =
    le_trace
    ∷ event_with (field (sized 8) (codes "t") ∷ field (Variant None (Some (codes "t" ∷ [])) (items_from (field (String []) (codes "A") ∷ []))) (codes "v") ∷ [])
    ∷ []

pub tag_integer_faults : told tag_integer ≡ LengthOrTag ∷ []
tag_integer_faults = refl

-- trace { major = 1; minor = 8; byte_order = le; }; event { name = "n"; fields := struct { variant { string A; } v; };
-- };
abbrev pub tag_missing : List Declaration
tag_missing =
    le_trace
    ∷ event_with (field (Variant None None (items_from (field (String []) (codes "A") ∷ []))) (codes "v") ∷ [])
    ∷ []

pub tag_missing_faults : told tag_missing ≡ LengthOrTag ∷ []
tag_missing_faults = refl

-- variant x <t> { string A; }; trace { major = 1; minor = 8; byte_order = le; }; event { name = "n"; fields := struct {
-- enum : integer { size = 8; } { A } t; enum : integer { size = 8; } { A } u; variant x <u> v; ..
abbrev pub tag_at_use : List Declaration
tag_at_use =
    Names (Compound (Variant (Some (codes "x")) (Some (codes "t" ∷ [])) (items_from (field (String []) (codes "A") ∷ []))))
    ∷ le_trace
    ∷ event_with (field (Enum None (Some (container.Integer (counts (codes "size") 8 ∷ []))) (bare (codes "A") ∷ [])) (codes "t") ∷ field (Enum None (Some (container.Integer (counts (codes "size") 8 ∷ []))) (bare (codes "A") ∷ [])) (codes "u") ∷ field (Named (name.Variant (codes "x")) (Some (codes "u" ∷ []))) (codes "v") ∷ field (Named (name.Variant (codes "x")) None) (codes "w") ∷ [])
    ∷ []

pub tag_at_use_faults : told tag_at_use ≡ []
tag_at_use_faults = refl

pub tag_at_use_class : class_of_text tag_at_use ≡ denotes_fields (made 8 3 7 (class.Structure (member (codes "t") (made 8 1 1 (class.Enumeration (number 8 false base.Decimal Le false) (covers (codes "A") (pos 0) (pos 0) ∷ []))) ∷ member (codes "u") (made 8 1 1 (class.Enumeration (number 8 false base.Decimal Le false) (covers (codes "A") (pos 0) (pos 0) ∷ []))) ∷ member (codes "v") (made 1 2 2 (class.Variant (inside 0 (1 ∷ [])) (choice (pos 0) (pos 0) 0 ∷ []) (member (codes "A") (made 8 1 1 class.String) ∷ []))) ∷ member (codes "w") (made 1 2 2 (class.Variant (inside 0 (0 ∷ [])) (choice (pos 0) (pos 0) 0 ∷ []) (member (codes "A") (made 8 1 1 class.String) ∷ []))) ∷ [])))
tag_at_use_class = refl

-- trace { major = 1; minor = 8; byte_order = le; }; variant x { string a; }; struct y { string s[nowhere]; };
abbrev pub tag_unused : List Declaration
tag_unused =
    le_trace
    ∷ Names (Compound (Variant (Some (codes "x")) None (items_from (field (String []) (codes "a") ∷ []))))
    ∷ Names (Compound (Struct (Some (codes "y")) (items_from (Fields (String []) (declarator (codes "s") (lengths.Path (codes "nowhere" ∷ []) ∷ []) ∷ []) ∷ [])) None))
    ∷ []

pub tag_unused_faults : told tag_unused ≡ []
tag_unused_faults = refl

pub tag_unused_class : class_of_text tag_unused ≡ Some (trace None None None (stream 0 None None None None [] ∷ []))
tag_unused_class = refl

-- struct x { string s[n]; }; trace { major = 1; minor = 8; byte_order = le; }; event { name = "n"; fields := struct {
-- integer { size = 8; } n; struct x a; }; };
abbrev pub where_it_stands : List Declaration
where_it_stands =
    Names (Compound (Struct (Some (codes "x")) (items_from (Fields (String []) (declarator (codes "s") (lengths.Path (codes "n" ∷ []) ∷ []) ∷ []) ∷ [])) None))
    ∷ le_trace
    ∷ event_with (field (sized 8) (codes "n") ∷ field (Named (name.Struct (codes "x")) None) (codes "a") ∷ [])
    ∷ []

pub where_it_stands_faults : told where_it_stands ≡ []
where_it_stands_faults = refl

pub where_it_stands_class : class_of_text where_it_stands ≡ denotes_fields (made 8 4 5 (class.Structure (member (codes "n") (unsigned 8 8) ∷ member (codes "a") (made 8 3 3 (class.Structure (member (codes "s") (made 8 2 2 (class.Array (counted (inside 1 (0 ∷ []))) (made 8 1 1 class.String))) ∷ []))) ∷ [])))
where_it_stands_class = refl

-- trace { major = 1; minor = 8; byte_order = le; }; event { name = "n"; fields := struct { integer { size = 8; encoding
-- = UTF8; } a[16]; integer { size = 8; align = 16; encoding = UTF8; } b[2]; integer { size = 8; ..
abbrev pub text_arrays : List Declaration
text_arrays =
    le_trace
    ∷ event_with (Fields (Integer (counts (codes "size") 8 ∷ says (codes "encoding") (codes "UTF8") ∷ [])) (declarator (codes "a") (lengths.Constant 16 ∷ []) ∷ []) ∷ Fields (Integer (counts (codes "size") 8 ∷ counts (codes "align") 16 ∷ says (codes "encoding") (codes "UTF8") ∷ [])) (declarator (codes "b") (lengths.Constant 2 ∷ []) ∷ []) ∷ Fields (sized 8) (declarator (codes "c") (lengths.Constant 2 ∷ lengths.Constant 3 ∷ []) ∷ []) ∷ Fields (Integer (counts (codes "size") 8 ∷ says (codes "encoding") (codes "ASCII") ∷ [])) (declarator (codes "d") (lengths.Constant 2 ∷ lengths.Constant 3 ∷ []) ∷ []) ∷ [])
    ∷ []

pub text_arrays_faults : told text_arrays ≡ []
text_arrays_faults = refl

pub text_arrays_class : class_of_text text_arrays ≡ denotes_fields (made 16 4 11 (class.Structure (member (codes "a") (made 8 2 2 (class.Text (fixed 16))) ∷ member (codes "b") (made 16 2 2 (class.Array (fixed 2) (unsigned 8 16))) ∷ member (codes "c") (made 8 3 3 (class.Array (fixed 2) (made 8 2 2 (class.Array (fixed 3) (unsigned 8 8))))) ∷ member (codes "d") (made 8 3 3 (class.Array (fixed 2) (made 8 2 2 (class.Text (fixed 3))))) ∷ [])))
text_arrays_class = refl

-- trace { major = 1; minor = 8; byte_order = le; }; event { name = "n"; fields := struct { integer { size = 8; } n;
-- integer { size = 8; encoding = UTF8; } s[n]; integer { size = 8; encoding = UTF8; } t[n][2]; ..
abbrev pub text_sequence : List Declaration
text_sequence =
    le_trace
    ∷ event_with (field (sized 8) (codes "n") ∷ Fields (Integer (counts (codes "size") 8 ∷ says (codes "encoding") (codes "UTF8") ∷ [])) (declarator (codes "s") (lengths.Path (codes "n" ∷ []) ∷ []) ∷ []) ∷ Fields (Integer (counts (codes "size") 8 ∷ says (codes "encoding") (codes "UTF8") ∷ [])) (declarator (codes "t") (lengths.Path (codes "n" ∷ []) ∷ lengths.Constant 2 ∷ []) ∷ []) ∷ Fields (Integer (counts (codes "size") 16 ∷ counts (codes "align") 32 ∷ [])) (declarator (codes "u") (lengths.Path (codes "n" ∷ []) ∷ []) ∷ []) ∷ [])
    ∷ []

pub text_sequence_faults : told text_sequence ≡ []
text_sequence_faults = refl

pub text_sequence_class : class_of_text text_sequence ≡ denotes_fields (made 32 4 9 (class.Structure (member (codes "n") (unsigned 8 8) ∷ member (codes "s") (made 8 2 2 (class.Text (counted (inside 0 (0 ∷ []))))) ∷ member (codes "t") (made 8 3 3 (class.Array (counted (inside 0 (0 ∷ []))) (made 8 2 2 (class.Text (fixed 2))))) ∷ member (codes "u") (made 32 2 2 (class.Array (counted (inside 0 (0 ∷ []))) (unsigned 16 32))) ∷ [])))
text_sequence_class = refl

-- trace { major = 1; minor = 8; byte_order = le; }; stream { packet.context := struct { struct { integer { size = 8; }
-- n; } c; }; event.header := struct { string s[stream.packet.context.c.n]; }; }; event { name = ..
abbrev pub path_packet_context : List Declaration
path_packet_context =
    le_trace
    ∷ Block kind.Stream (Classed (codes "packet" ∷ codes "context" ∷ []) (structure (field (structure (field (sized 8) (codes "n") ∷ [])) (codes "c") ∷ [])) ∷ Classed (codes "event" ∷ codes "header" ∷ []) (structure (Fields (String []) (declarator (codes "s") (lengths.Path (codes "stream" ∷ codes "packet" ∷ codes "context" ∷ codes "c" ∷ codes "n" ∷ []) ∷ []) ∷ []) ∷ [])) ∷ [])
    ∷ event_with (Fields (String []) (declarator (codes "t") (lengths.Path (codes "stream" ∷ codes "packet" ∷ codes "context" ∷ codes "c" ∷ codes "n" ∷ []) ∷ []) ∷ []) ∷ Fields (String []) (declarator (codes "u") (lengths.Path (codes "c" ∷ codes "n" ∷ []) ∷ []) ∷ []) ∷ [])
    ∷ []

pub path_packet_context_faults : told path_packet_context ≡ []
path_packet_context_faults = refl

pub path_packet_context_class : class_of_text path_packet_context ≡ Some (trace None None None (stream 0 (Some (made 8 3 3 (class.Structure (member (codes "c") (made 8 2 2 (class.Structure (member (codes "n") (unsigned 8 8) ∷ []))) ∷ [])))) (Some (made 8 3 3 (class.Structure (member (codes "s") (made 8 2 2 (class.Array (counted (before PacketContext (0 ∷ 0 ∷ []))) (made 8 1 1 class.String))) ∷ [])))) None None (event None 0 (codes "n") None (made 8 3 5 (class.Structure (member (codes "t") (made 8 2 2 (class.Array (counted (before PacketContext (0 ∷ 0 ∷ []))) (made 8 1 1 class.String))) ∷ member (codes "u") (made 8 2 2 (class.Array (counted (before PacketContext (0 ∷ 0 ∷ []))) (made 8 1 1 class.String))) ∷ []))) ∷ []) ∷ []))
path_packet_context_class = refl

-- trace { major = 1; minor = 8; byte_order = le; }; event { name = "n"; context := struct { integer { size = 8; } n;
-- string s[event.context.n]; }; fields := struct { integer { size = 16; } n; string s[n]; string ..
abbrev pub path_event_context : List Declaration
path_event_context =
    le_trace
    ∷ Block kind.Event (Assigned (quotes (codes "name") (codes "n")) ∷ Classed (codes "context" ∷ []) (structure (field (sized 8) (codes "n") ∷ Fields (String []) (declarator (codes "s") (lengths.Path (codes "event" ∷ codes "context" ∷ codes "n" ∷ []) ∷ []) ∷ []) ∷ [])) ∷ Classed (codes "fields" ∷ []) (structure (field (sized 16) (codes "n") ∷ Fields (String []) (declarator (codes "s") (lengths.Path (codes "n" ∷ []) ∷ []) ∷ []) ∷ Fields (String []) (declarator (codes "t") (lengths.Path (codes "event" ∷ codes "context" ∷ codes "n" ∷ []) ∷ []) ∷ []) ∷ [])) ∷ [])
    ∷ []

pub path_event_context_faults : told path_event_context ≡ []
path_event_context_faults = refl

pub path_event_context_class : class_of_text path_event_context ≡ Some (trace None None None (stream 0 None None None None (event None 0 (codes "n") (Some (made 8 3 4 (class.Structure (member (codes "n") (unsigned 8 8) ∷ member (codes "s") (made 8 2 2 (class.Array (counted (inside 0 (0 ∷ []))) (made 8 1 1 class.String))) ∷ [])))) (made 8 3 6 (class.Structure (member (codes "n") (unsigned 16 8) ∷ member (codes "s") (made 8 2 2 (class.Array (counted (inside 0 (0 ∷ []))) (made 8 1 1 class.String))) ∷ member (codes "t") (made 8 2 2 (class.Array (counted (before EventContext (0 ∷ []))) (made 8 1 1 class.String))) ∷ []))) ∷ []) ∷ []))
path_event_context_class = refl

-- trace { major = 1; minor = 8; byte_order = le; }; event { name = "n"; fields := struct { integer { size = 8; } n;
-- struct { struct { integer { size = 8; } q; } n; string s[n]; } x; }; };
abbrev pub path_hit_that_fails : List Declaration
path_hit_that_fails =
    le_trace
    ∷ event_with (field (sized 8) (codes "n") ∷ field (structure (field (structure (field (sized 8) (codes "q") ∷ [])) (codes "n") ∷ Fields (String []) (declarator (codes "s") (lengths.Path (codes "n" ∷ []) ∷ []) ∷ []) ∷ [])) (codes "x") ∷ [])
    ∷ []

pub path_hit_that_fails_faults : told path_hit_that_fails ≡ LengthOrTag ∷ []
path_hit_that_fails_faults = refl

-- trace { major = 1; minor = 8; byte_order = le; }; event { name = "n"; fields := struct { struct { integer { size = 8;
-- } m; } n; struct { struct { integer { size = 8; } q; } n; string s[n.m]; } x; }; };
abbrev pub path_hit_without_further : List Declaration
path_hit_without_further =
    le_trace
    ∷ event_with (field (structure (field (sized 8) (codes "m") ∷ [])) (codes "n") ∷ field (structure (field (structure (field (sized 8) (codes "q") ∷ [])) (codes "n") ∷ Fields (String []) (declarator (codes "s") (lengths.Path (codes "n" ∷ codes "m" ∷ []) ∷ []) ∷ []) ∷ [])) (codes "x") ∷ [])
    ∷ []

pub path_hit_without_further_faults : told path_hit_without_further ≡ LengthOrTag ∷ []
path_hit_without_further_faults = refl

-- trace { major = 1; minor = 8; byte_order = le; }; event { name = "n"; fields := struct { enum : integer { size = 8; }
-- { A } t; variant <t> { struct { enum : integer { size = 8; } { B } t; variant <t> { string B; ..
abbrev pub variant_in_variant : List Declaration
variant_in_variant =
    le_trace
    ∷ event_with (field (Enum None (Some (container.Integer (counts (codes "size") 8 ∷ []))) (bare (codes "A") ∷ [])) (codes "t") ∷ field (Variant None (Some (codes "t" ∷ [])) (items_from (field (structure (field (Enum None (Some (container.Integer (counts (codes "size") 8 ∷ []))) (bare (codes "B") ∷ [])) (codes "t") ∷ field (Variant None (Some (codes "t" ∷ [])) (items_from (field (String []) (codes "B") ∷ []))) (codes "v") ∷ [])) (codes "A") ∷ []))) (codes "v") ∷ [])
    ∷ []

pub variant_in_variant_faults : told variant_in_variant ≡ []
variant_in_variant_faults = refl

pub variant_in_variant_class : class_of_text variant_in_variant ≡ denotes_fields (made 8 5 7 (class.Structure (member (codes "t") (made 8 1 1 (class.Enumeration (number 8 false base.Decimal Le false) (covers (codes "A") (pos 0) (pos 0) ∷ []))) ∷ member (codes "v") (made 1 4 5 (class.Variant (inside 0 (0 ∷ [])) (choice (pos 0) (pos 0) 0 ∷ []) (member (codes "A") (made 8 3 4 (class.Structure (member (codes "t") (made 8 1 1 (class.Enumeration (number 8 false base.Decimal Le false) (covers (codes "B") (pos 0) (pos 0) ∷ []))) ∷ member (codes "v") (made 1 2 2 (class.Variant (inside 0 (0 ∷ [])) (choice (pos 0) (pos 0) 0 ∷ []) (member (codes "B") (made 8 1 1 class.String) ∷ []))) ∷ []))) ∷ []))) ∷ [])))
variant_in_variant_class = refl

-- trace { major = 1; minor = 8; byte_order = le; }; event { name = "n"; fields := struct { integer { size = 32; align =
-- 32; } a[0]; struct { } b; }; };
abbrev pub empty_array : List Declaration
empty_array =
    le_trace
    ∷ event_with (Fields (Integer (counts (codes "size") 32 ∷ counts (codes "align") 32 ∷ [])) (declarator (codes "a") (lengths.Constant 0 ∷ []) ∷ []) ∷ field (structure []) (codes "b") ∷ [])
    ∷ []

pub empty_array_faults : told empty_array ≡ []
empty_array_faults = refl

pub empty_array_class : class_of_text empty_array ≡ denotes_fields (made 32 3 4 (class.Structure (member (codes "a") (made 32 2 2 (class.Array (fixed 0) (unsigned 32 32))) ∷ member (codes "b") (made 1 1 1 (class.Structure [])) ∷ [])))
empty_array_class = refl
