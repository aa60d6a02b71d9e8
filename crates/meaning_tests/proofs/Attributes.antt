-- What attributes mean.
use Rattle.std.specs.Prelude.{◌≡◌, true, false, List, [], ◌∷◌, Some, None, pos, codes, refl}
use Rattle.tsdl_tree.specs.declared.tree.BlockKind.TheVariants as kind
use Rattle.tsdl_tree.specs.declared.tree.TableKind.TheVariants as table
use Rattle.tsdl_tree.specs.declared.tree.Value.TheVariants as value
use Rattle.ctf_bits.specs.declared.number.Order.TheVariants.{Le, Be}
use Rattle.ctf_class.specs.declared.class.Kind.TheVariants as class
use Rattle.ctf_class.specs.declared.integer.Base.TheVariants as base
use Rattle.ctf_meaning.specs.declared.fault.ResolveFault.TheVariants.{UnknownType, DeclaredTwice, Attribute, FloatingPoint, SizeOrAlignment}
use Rattle.ctf_meaning.specs.Written.{Declaration, Block, Table, Names, Assigned, Classed, Integer, Float, String, Struct, Fields, Alias, items_from}
use Rattle.ctf_meaning.specs.Denotes.{class_of_text}
use Rattle.meaning_tests.proofs.Writing.{le_trace, clock_named, event_with, denotes_fields, set, counts, says, quotes, minus, sized, structure, named, field, declarator, number, unsigned, made, member, clock, stream, trace, told}

-- trace { major = 1; minor = 8; byte_order = le; }; event { name = "n"; fields := struct { integer { size = 8; base =
-- "16"; } a; integer { size = 8; base = 0x8; } b; integer { size = 8; base = b; } c; integer { ..
abbrev pub base_quoted : List Declaration
base_quoted =
    le_trace
    ∷ event_with (field (Integer (counts (codes "size") 8 ∷ quotes (codes "base") (codes "16") ∷ [])) (codes "a") ∷ field (Integer (counts (codes "size") 8 ∷ counts (codes "base") 8 ∷ [])) (codes "b") ∷ field (Integer (counts (codes "size") 8 ∷ says (codes "base") (codes "b") ∷ [])) (codes "c") ∷ field (Integer (counts (codes "size") 8 ∷ quotes (codes "base") (codes "p") ∷ [])) (codes "d") ∷ [])
    ∷ []

pub base_quoted_faults : told base_quoted ≡ []
base_quoted_faults = refl

pub base_quoted_class : class_of_text base_quoted ≡ denotes_fields (made 8 2 5 (class.Structure (member (codes "a") (made 8 1 1 (class.Integer (number 8 false base.Hexadecimal Le false))) ∷ member (codes "b") (made 8 1 1 (class.Integer (number 8 false base.Octal Le false))) ∷ member (codes "c") (made 8 1 1 (class.Integer (number 8 false base.Binary Le false))) ∷ member (codes "d") (made 8 1 1 (class.Integer (number 8 false base.Hexadecimal Le false))) ∷ [])))
base_quoted_class = refl

-- trace { major = 1; minor = 8; byte_order = le; }; event { name = "n"; fields := struct { integer { size = 8; base =
-- 7; } a; }; };
abbrev pub base_bad : List Declaration
base_bad =
    le_trace
    ∷ event_with (field (Integer (counts (codes "size") 8 ∷ counts (codes "base") 7 ∷ [])) (codes "a") ∷ [])
    ∷ []

pub base_bad_faults : told base_bad ≡ Attribute ∷ []
base_bad_faults = refl

-- trace { major = 1; minor = 8; byte_order = le; }; event { name = "n"; fields := struct { integer { size = 8; signed =
-- "1"; } a; integer { size = 8; signed = +1; } b; integer { size = 8; signed = TRUE; } c; ..
abbrev pub sign_forms : List Declaration
sign_forms =
    le_trace
    ∷ event_with (field (Integer (counts (codes "size") 8 ∷ quotes (codes "signed") (codes "1") ∷ [])) (codes "a") ∷ field (Integer (counts (codes "size") 8 ∷ counts (codes "signed") 1 ∷ [])) (codes "b") ∷ field (Integer (counts (codes "size") 8 ∷ says (codes "signed") (codes "TRUE") ∷ [])) (codes "c") ∷ field (Integer (counts (codes "size") 8 ∷ counts (codes "signed") 0 ∷ [])) (codes "d") ∷ field (Integer (counts (codes "size") 8 ∷ set (codes "signed" ∷ []) (value.Number (minus 0)) ∷ [])) (codes "e") ∷ [])
    ∷ []

pub sign_forms_faults : told sign_forms ≡ []
sign_forms_faults = refl

pub sign_forms_class : class_of_text sign_forms ≡ denotes_fields (made 8 2 6 (class.Structure (member (codes "a") (made 8 1 1 (class.Integer (number 8 true base.Decimal Le false))) ∷ member (codes "b") (made 8 1 1 (class.Integer (number 8 true base.Decimal Le false))) ∷ member (codes "c") (made 8 1 1 (class.Integer (number 8 true base.Decimal Le false))) ∷ member (codes "d") (unsigned 8 8) ∷ member (codes "e") (unsigned 8 8) ∷ [])))
sign_forms_class = refl

-- trace { major = 1; minor = 8; byte_order = le; }; event { name = "n"; fields := struct { integer { size = 8; signed =
-- yes; } a; }; };
abbrev pub sign_bad : List Declaration
sign_bad =
    le_trace
    ∷ event_with (field (Integer (counts (codes "size") 8 ∷ says (codes "signed") (codes "yes") ∷ [])) (codes "a") ∷ [])
    ∷ []

pub sign_bad_faults : told sign_bad ≡ Attribute ∷ []
sign_bad_faults = refl

-- trace { major = 1; minor = 8; byte_order = le; }; event { name = "n"; fields := struct { integer { size = 8;
-- byte_order = network; } a; integer { size = 8; byte_order = "le"; } b; integer { size = 8; byte_order = ..
abbrev pub order_forms : List Declaration
order_forms =
    le_trace
    ∷ event_with (field (Integer (counts (codes "size") 8 ∷ says (codes "byte_order") (codes "network") ∷ [])) (codes "a") ∷ field (Integer (counts (codes "size") 8 ∷ quotes (codes "byte_order") (codes "le") ∷ [])) (codes "b") ∷ field (Integer (counts (codes "size") 8 ∷ says (codes "byte_order") (codes "native") ∷ [])) (codes "c") ∷ field (Integer (counts (codes "size") 8 ∷ says (codes "byte_order") (codes "be") ∷ [])) (codes "d") ∷ [])
    ∷ []

pub order_forms_faults : told order_forms ≡ []
order_forms_faults = refl

pub order_forms_class : class_of_text order_forms ≡ denotes_fields (made 8 2 5 (class.Structure (member (codes "a") (made 8 1 1 (class.Integer (number 8 false base.Decimal Be false))) ∷ member (codes "b") (unsigned 8 8) ∷ member (codes "c") (unsigned 8 8) ∷ member (codes "d") (made 8 1 1 (class.Integer (number 8 false base.Decimal Be false))) ∷ [])))
order_forms_class = refl

-- trace { major = 1; minor = 8; byte_order = le; }; event { name = "n"; fields := struct { integer { size = 8;
-- byte_order = middle; } a; }; };
abbrev pub order_bad : List Declaration
order_bad =
    le_trace
    ∷ event_with (field (Integer (counts (codes "size") 8 ∷ says (codes "byte_order") (codes "middle") ∷ [])) (codes "a") ∷ [])
    ∷ []

pub order_bad_faults : told order_bad ≡ Attribute ∷ []
order_bad_faults = refl

-- trace { major = 1; minor = 8; byte_order = le; }; event { name = "n"; fields := struct { integer { size = 8; encoding
-- = utf16; } a; }; };
abbrev pub encoding_bad : List Declaration
encoding_bad =
    le_trace
    ∷ event_with (field (Integer (counts (codes "size") 8 ∷ says (codes "encoding") (codes "utf16") ∷ [])) (codes "a") ∷ [])
    ∷ []

pub encoding_bad_faults : told encoding_bad ≡ Attribute ∷ []
encoding_bad_faults = refl

-- trace { major = 1; minor = 8; byte_order = le; }; event { name = "n"; fields := struct { string { encoding = 8; } a;
-- }; };
abbrev pub string_encoding_bad : List Declaration
string_encoding_bad =
    le_trace
    ∷ event_with (field (String (counts (codes "encoding") 8 ∷ [])) (codes "a") ∷ [])
    ∷ []

pub string_encoding_bad_faults : told string_encoding_bad ≡ Attribute ∷ []
string_encoding_bad_faults = refl

-- trace { major = 1; minor = 8; byte_order = le; }; event { name = "n"; fields := struct { string { encoding = UTF8;
-- encoding = UTF8; } a; }; };
abbrev pub string_encoding_twice : List Declaration
string_encoding_twice =
    le_trace
    ∷ event_with (field (String (says (codes "encoding") (codes "UTF8") ∷ says (codes "encoding") (codes "UTF8") ∷ [])) (codes "a") ∷ [])
    ∷ []

pub string_encoding_twice_faults : told string_encoding_twice ≡ Attribute ∷ []
string_encoding_twice_faults = refl

-- trace { major = 1; minor = 8; byte_order = le; }; event { name = "n"; fields := struct { string { size = 8; size = 9;
-- } a; }; };
abbrev pub string_size_twice : List Declaration
string_size_twice =
    le_trace
    ∷ event_with (field (String (counts (codes "size") 8 ∷ counts (codes "size") 9 ∷ [])) (codes "a") ∷ [])
    ∷ []

pub string_size_twice_faults : told string_size_twice ≡ []
string_size_twice_faults = refl

pub string_size_twice_class : class_of_text string_size_twice ≡ denotes_fields (made 8 2 2 (class.Structure (member (codes "a") (made 8 1 1 class.String) ∷ [])))
string_size_twice_class = refl

-- trace { major = 1; minor = 8; byte_order = le; }; event { name = "n"; fields := struct { integer { size = big; } a;
-- }; };
abbrev pub size_word : List Declaration
size_word =
    le_trace
    ∷ event_with (field (Integer (says (codes "size") (codes "big") ∷ [])) (codes "a") ∷ [])
    ∷ []

pub size_word_faults : told size_word ≡ Attribute ∷ []
size_word_faults = refl

-- trace { major = 1; minor = 8; byte_order = le; }; event { name = "n"; fields := struct { integer { size = "8"; } a;
-- }; };
abbrev pub size_quoted : List Declaration
size_quoted =
    le_trace
    ∷ event_with (field (Integer (quotes (codes "size") (codes "8") ∷ [])) (codes "a") ∷ [])
    ∷ []

pub size_quoted_faults : told size_quoted ≡ Attribute ∷ []
size_quoted_faults = refl

-- trace { major = 1; minor = 8; byte_order = le; }; event { name = "n"; fields := struct { integer { size = -8; } a; };
-- };
abbrev pub size_minus : List Declaration
size_minus =
    le_trace
    ∷ event_with (field (Integer (set (codes "size" ∷ []) (value.Number (minus 8)) ∷ [])) (codes "a") ∷ [])
    ∷ []

pub size_minus_faults : told size_minus ≡ SizeOrAlignment ∷ []
size_minus_faults = refl

-- trace { major = 1; minor = 8; byte_order = le; }; event { name = "n"; fields := struct { integer { size =
-- -9223372036854775809; } a; }; };
abbrev pub size_minus_far : List Declaration
size_minus_far =
    le_trace
    ∷ event_with (field (Integer (set (codes "size" ∷ []) (value.Number (minus 9223372036854775809)) ∷ [])) (codes "a") ∷ [])
    ∷ []

pub size_minus_far_faults : told size_minus_far ≡ Attribute ∷ []
size_minus_far_faults = refl

-- trace { major = 1; minor = 8; byte_order = le; }; event { name = "n"; fields := struct { integer { size = 8; size =
-- 8; } a; }; };
abbrev pub size_twice : List Declaration
size_twice =
    le_trace
    ∷ event_with (field (Integer (counts (codes "size") 8 ∷ counts (codes "size") 8 ∷ [])) (codes "a") ∷ [])
    ∷ []

pub size_twice_faults : told size_twice ≡ Attribute ∷ []
size_twice_faults = refl

-- trace { major = 1; minor = 8; byte_order = le; }; event { name = "n"; fields := struct { integer { size = 4294967304;
-- } a; }; };
abbrev pub size_beyond_32_bits : List Declaration
size_beyond_32_bits =
    le_trace
    ∷ event_with (field (Integer (counts (codes "size") 4294967304 ∷ [])) (codes "a") ∷ [])
    ∷ []

pub size_beyond_32_bits_faults : told size_beyond_32_bits ≡ SizeOrAlignment ∷ []
size_beyond_32_bits_faults = refl

-- trace { major = 1; minor = 8; byte_order = le; }; event { name = "n"; fields := struct { integer { size = 65; size =
-- 65; } a; }; };
abbrev pub size_far_twice : List Declaration
size_far_twice =
    le_trace
    ∷ event_with (field (Integer (counts (codes "size") 65 ∷ counts (codes "size") 65 ∷ [])) (codes "a") ∷ [])
    ∷ []

pub size_far_twice_faults : told size_far_twice ≡ Attribute ∷ SizeOrAlignment ∷ []
size_far_twice_faults = refl

-- trace { major = 1; minor = 8; byte_order = le; }; event { name = "n"; fields := struct { integer { size = 65; map =
-- x; map = x; } a; }; };
abbrev pub map_twice : List Declaration
map_twice =
    le_trace
    ∷ event_with (field (Integer (counts (codes "size") 65 ∷ says (codes "map") (codes "x") ∷ says (codes "map") (codes "x") ∷ [])) (codes "a") ∷ [])
    ∷ []

pub map_twice_faults : told map_twice ≡ Attribute ∷ SizeOrAlignment ∷ []
map_twice_faults = refl

-- trace { major = 1; minor = 8; byte_order = le; }; event { name = "n"; fields := struct { integer { size = 65; signed
-- = yes; } a; }; };
abbrev pub size_far_and_sign : List Declaration
size_far_and_sign =
    le_trace
    ∷ event_with (field (Integer (counts (codes "size") 65 ∷ says (codes "signed") (codes "yes") ∷ [])) (codes "a") ∷ [])
    ∷ []

pub size_far_and_sign_faults : told size_far_and_sign ≡ Attribute ∷ SizeOrAlignment ∷ []
size_far_and_sign_faults = refl

-- trace { major = 1; minor = 8; byte_order = le; }; event { name = "n"; fields := struct { integer { size = 8; align =
-- 2147483648; } a; integer { size = 8; align = 1; } b; }; };
abbrev pub align_far : List Declaration
align_far =
    le_trace
    ∷ event_with (field (Integer (counts (codes "size") 8 ∷ counts (codes "align") 2147483648 ∷ [])) (codes "a") ∷ field (Integer (counts (codes "size") 8 ∷ counts (codes "align") 1 ∷ [])) (codes "b") ∷ [])
    ∷ []

pub align_far_faults : told align_far ≡ []
align_far_faults = refl

pub align_far_class : class_of_text align_far ≡ denotes_fields (made 2147483648 2 3 (class.Structure (member (codes "a") (unsigned 8 2147483648) ∷ member (codes "b") (unsigned 8 1) ∷ [])))
align_far_class = refl

-- trace { major = 1; minor = 8; byte_order = le; }; event { name = "n"; fields := struct { integer { size = 8; align =
-- 4294967296; } a; }; };
abbrev pub align_too_far : List Declaration
align_too_far =
    le_trace
    ∷ event_with (field (Integer (counts (codes "size") 8 ∷ counts (codes "align") 4294967296 ∷ [])) (codes "a") ∷ [])
    ∷ []

pub align_too_far_faults : told align_too_far ≡ SizeOrAlignment ∷ []
align_too_far_faults = refl

-- trace { major = 1; minor = 8; byte_order = le; }; event { name = "n"; fields := struct { integer { size = 8; align =
-- 0; } a; }; };
abbrev pub align_0 : List Declaration
align_0 =
    le_trace
    ∷ event_with (field (Integer (counts (codes "size") 8 ∷ counts (codes "align") 0 ∷ [])) (codes "a") ∷ [])
    ∷ []

pub align_0_faults : told align_0 ≡ SizeOrAlignment ∷ []
align_0_faults = refl

-- trace { major = 1; minor = 8; byte_order = le; }; event { name = "n"; fields := struct { integer { size = 8; align =
-- "8"; } a; }; };
abbrev pub align_word : List Declaration
align_word =
    le_trace
    ∷ event_with (field (Integer (counts (codes "size") 8 ∷ quotes (codes "align") (codes "8") ∷ [])) (codes "a") ∷ [])
    ∷ []

pub align_word_faults : told align_word ≡ Attribute ∷ []
align_word_faults = refl

-- trace { major = 1; minor = 8; byte_order = le; }; event { name = "n"; fields := struct { integer { size = 24; } a;
-- integer { size = 7; } b; integer { size = 64; } c; }; };
abbrev pub align_default : List Declaration
align_default =
    le_trace
    ∷ event_with (field (sized 24) (codes "a") ∷ field (sized 7) (codes "b") ∷ field (sized 64) (codes "c") ∷ [])
    ∷ []

pub align_default_faults : told align_default ≡ []
align_default_faults = refl

pub align_default_class : class_of_text align_default ≡ denotes_fields (made 8 2 4 (class.Structure (member (codes "a") (unsigned 24 8) ∷ member (codes "b") (unsigned 7 1) ∷ member (codes "c") (unsigned 64 8) ∷ [])))
align_default_class = refl

-- trace { major = 1; minor = 8; byte_order = le; }; event { name = "n"; fields := struct { struct { integer { size = 3;
-- } a; } align(64) x; struct { integer { size = 8; align = 32; } a; } align(16) y; }; };
abbrev pub struct_align : List Declaration
struct_align =
    le_trace
    ∷ event_with (field (Struct None (items_from (field (sized 3) (codes "a") ∷ [])) (Some 64)) (codes "x") ∷ field (Struct None (items_from (field (Integer (counts (codes "size") 8 ∷ counts (codes "align") 32 ∷ [])) (codes "a") ∷ [])) (Some 16)) (codes "y") ∷ [])
    ∷ []

pub struct_align_faults : told struct_align ≡ []
struct_align_faults = refl

pub struct_align_class : class_of_text struct_align ≡ denotes_fields (made 64 3 5 (class.Structure (member (codes "x") (made 64 2 2 (class.Structure (member (codes "a") (unsigned 3 1) ∷ []))) ∷ member (codes "y") (made 32 2 2 (class.Structure (member (codes "a") (unsigned 8 32) ∷ []))) ∷ [])))
struct_align_class = refl

-- trace { major = 1; minor = 8; byte_order = le; }; event { name = "n"; fields := struct { struct { } align(3) x; }; };
abbrev pub struct_align_3 : List Declaration
struct_align_3 =
    le_trace
    ∷ event_with (field (Struct None (items_from []) (Some 3)) (codes "x") ∷ [])
    ∷ []

pub struct_align_3_faults : told struct_align_3 ≡ SizeOrAlignment ∷ []
struct_align_3_faults = refl

-- trace { major = 1; minor = 8; byte_order = le; }; event { name = "n"; fields := struct { struct { } align(0) x; }; };
abbrev pub struct_align_0 : List Declaration
struct_align_0 =
    le_trace
    ∷ event_with (field (Struct None (items_from []) (Some 0)) (codes "x") ∷ [])
    ∷ []

pub struct_align_0_faults : told struct_align_0 ≡ SizeOrAlignment ∷ []
struct_align_0_faults = refl

-- clock { name = "m"; }; trace { major = 1; minor = 8; byte_order = le; }; stream { event.header := struct { integer {
-- size = 8; map = "clock.m.value"; } x; }; };
abbrev pub map_quoted : List Declaration
map_quoted =
    clock_named (codes "m")
    ∷ le_trace
    ∷ Block kind.Stream (Classed (codes "event" ∷ codes "header" ∷ []) (structure (field (Integer (counts (codes "size") 8 ∷ quotes (codes "map") (codes "clock.m.value") ∷ [])) (codes "x") ∷ [])) ∷ [])
    ∷ []

pub map_quoted_faults : told map_quoted ≡ []
map_quoted_faults = refl

pub map_quoted_class : class_of_text map_quoted ≡ Some (trace None None None (stream 0 None (Some (made 8 2 2 (class.Structure (member (codes "x") (made 8 1 1 (class.Integer (number 8 false base.Decimal Le true))) ∷ [])))) None (Some (clock (codes "m") 1000000000 (pos 0) (pos 0))) [] ∷ []))
map_quoted_class = refl

-- clock { name = a.b; }; trace { major = 1; minor = 8; byte_order = le; }; stream { event.header := struct { integer {
-- size = 8; map = clock.a.b.value; } x; }; };
abbrev pub map_dotted : List Declaration
map_dotted =
    Table table.Clock (set (codes "name" ∷ []) (value.Name (codes "a" ∷ codes "b" ∷ [])) ∷ [])
    ∷ le_trace
    ∷ Block kind.Stream (Classed (codes "event" ∷ codes "header" ∷ []) (structure (field (Integer (counts (codes "size") 8 ∷ set (codes "map" ∷ []) (value.Name (codes "clock" ∷ codes "a" ∷ codes "b" ∷ codes "value" ∷ [])) ∷ [])) (codes "x") ∷ [])) ∷ [])
    ∷ []

pub map_dotted_faults : told map_dotted ≡ []
map_dotted_faults = refl

pub map_dotted_class : class_of_text map_dotted ≡ Some (trace None None None (stream 0 None (Some (made 8 2 2 (class.Structure (member (codes "x") (made 8 1 1 (class.Integer (number 8 false base.Decimal Le true))) ∷ [])))) None (Some (clock (codes "a.b") 1000000000 (pos 0) (pos 0))) [] ∷ []))
map_dotted_class = refl

-- clock { name = "m"; }; trace { major = 1; minor = 8; byte_order = le; }; stream { event.header := struct { integer {
-- size = 8; map = clock.m; } x; }; };
abbrev pub map_short : List Declaration
map_short =
    clock_named (codes "m")
    ∷ le_trace
    ∷ Block kind.Stream (Classed (codes "event" ∷ codes "header" ∷ []) (structure (field (Integer (counts (codes "size") 8 ∷ set (codes "map" ∷ []) (value.Name (codes "clock" ∷ codes "m" ∷ [])) ∷ [])) (codes "x") ∷ [])) ∷ [])
    ∷ []

pub map_short_faults : told map_short ≡ Attribute ∷ []
map_short_faults = refl

-- clock { name = ""; }; trace { major = 1; minor = 8; byte_order = le; }; stream { event.header := struct { integer {
-- size = 8; map = "clock.value"; } x; }; };
abbrev pub map_no_name : List Declaration
map_no_name =
    clock_named (codes "")
    ∷ le_trace
    ∷ Block kind.Stream (Classed (codes "event" ∷ codes "header" ∷ []) (structure (field (Integer (counts (codes "size") 8 ∷ quotes (codes "map") (codes "clock.value") ∷ [])) (codes "x") ∷ [])) ∷ [])
    ∷ []

pub map_no_name_faults : told map_no_name ≡ Attribute ∷ []
map_no_name_faults = refl

-- clock { name = ""; }; trace { major = 1; minor = 8; byte_order = le; }; stream { event.header := struct { integer {
-- size = 8; map = "clock..value"; } x; }; };
abbrev pub map_empty_name : List Declaration
map_empty_name =
    clock_named (codes "")
    ∷ le_trace
    ∷ Block kind.Stream (Classed (codes "event" ∷ codes "header" ∷ []) (structure (field (Integer (counts (codes "size") 8 ∷ quotes (codes "map") (codes "clock..value") ∷ [])) (codes "x") ∷ [])) ∷ [])
    ∷ []

pub map_empty_name_faults : told map_empty_name ≡ []
map_empty_name_faults = refl

pub map_empty_name_class : class_of_text map_empty_name ≡ Some (trace None None None (stream 0 None (Some (made 8 2 2 (class.Structure (member (codes "x") (made 8 1 1 (class.Integer (number 8 false base.Decimal Le true))) ∷ [])))) None (Some (clock (codes "") 1000000000 (pos 0) (pos 0))) [] ∷ []))
map_empty_name_class = refl

-- trace { major = 1; minor = 8; byte_order = le; }; event { name = "n"; fields := struct { integer { size = 8; colour =
-- red; colour = "blue"; } a; }; };
abbrev pub unknown_attribute : List Declaration
unknown_attribute =
    le_trace
    ∷ event_with (field (Integer (counts (codes "size") 8 ∷ says (codes "colour") (codes "red") ∷ quotes (codes "colour") (codes "blue") ∷ [])) (codes "a") ∷ [])
    ∷ []

pub unknown_attribute_faults : told unknown_attribute ≡ []
unknown_attribute_faults = refl

pub unknown_attribute_class : class_of_text unknown_attribute ≡ denotes_fields (made 8 2 2 (class.Structure (member (codes "a") (unsigned 8 8) ∷ [])))
unknown_attribute_class = refl

-- trace { major = 1; minor = 8; byte_order = le; }; event { name = "n"; fields := struct { integer { size = 8; colour =
-- -9223372036854775809; } a; }; };
abbrev pub minus_ignored : List Declaration
minus_ignored =
    le_trace
    ∷ event_with (field (Integer (counts (codes "size") 8 ∷ set (codes "colour" ∷ []) (value.Number (minus 9223372036854775809)) ∷ [])) (codes "a") ∷ [])
    ∷ []

pub minus_ignored_faults : told minus_ignored ≡ Attribute ∷ []
minus_ignored_faults = refl

-- trace { major = 1; minor = 8; byte_order = le; }; typealias floating_point { exp_dig = -9223372036854775809; } := f;
abbrev pub minus_float : List Declaration
minus_float =
    le_trace
    ∷ Names (Alias (Float (set (codes "exp_dig" ∷ []) (value.Number (minus 9223372036854775809)) ∷ [])) (codes "f" ∷ []))
    ∷ []

pub minus_float_faults : told minus_float ≡ Attribute ∷ []
minus_float_faults = refl

-- trace { major = 1; minor = 8; byte_order = le; }; env { x = -9223372036854775809; };
abbrev pub minus_env : List Declaration
minus_env =
    le_trace
    ∷ Table table.Env (set (codes "x" ∷ []) (value.Number (minus 9223372036854775809)) ∷ [])
    ∷ []

pub minus_env_faults : told minus_env ≡ Attribute ∷ []
minus_env_faults = refl

-- trace { major = 1; minor = 8; byte_order = le; }; callsite { x = -9223372036854775809; };
abbrev pub minus_callsite : List Declaration
minus_callsite =
    le_trace
    ∷ Table table.Callsite (set (codes "x" ∷ []) (value.Number (minus 9223372036854775809)) ∷ [])
    ∷ []

pub minus_callsite_faults : told minus_callsite ≡ Attribute ∷ []
minus_callsite_faults = refl

-- trace { major = 1; minor = 8; byte_order = le; }; clock { name = "m"; precision = -9223372036854775809; };
abbrev pub minus_clock : List Declaration
minus_clock =
    le_trace
    ∷ Table table.Clock (quotes (codes "name") (codes "m") ∷ set (codes "precision" ∷ []) (value.Number (minus 9223372036854775809)) ∷ [])
    ∷ []

pub minus_clock_faults : told minus_clock ≡ Attribute ∷ []
minus_clock_faults = refl

-- trace { major = 1; minor = 8; byte_order = le; }; stream { x = -9223372036854775809; };
abbrev pub minus_block : List Declaration
minus_block =
    le_trace
    ∷ Block kind.Stream (Assigned (set (codes "x" ∷ []) (value.Number (minus 9223372036854775809))) ∷ [])
    ∷ []

pub minus_block_faults : told minus_block ≡ Attribute ∷ []
minus_block_faults = refl

-- trace { major = 1; minor = 8; byte_order = le; }; env { x = -9223372036854775808; };
abbrev pub minus_edge : List Declaration
minus_edge =
    le_trace
    ∷ Table table.Env (set (codes "x" ∷ []) (value.Number (minus 9223372036854775808)) ∷ [])
    ∷ []

pub minus_edge_faults : told minus_edge ≡ []
minus_edge_faults = refl

pub minus_edge_class : class_of_text minus_edge ≡ Some (trace None None None (stream 0 None None None None [] ∷ []))
minus_edge_class = refl

-- trace { major = 1; minor = 8; byte_order = le; }; event { name = "n"; fields := struct { integer { size = 0; } a; t
-- b; string b; integer { align = 8; } c; }; };
abbrev pub two_faults : List Declaration
two_faults =
    le_trace
    ∷ event_with (field (sized 0) (codes "a") ∷ field (named (codes "t")) (codes "b") ∷ field (String []) (codes "b") ∷ field (Integer (counts (codes "align") 8 ∷ [])) (codes "c") ∷ [])
    ∷ []

pub two_faults_faults : told two_faults ≡ UnknownType ∷ DeclaredTwice ∷ Attribute ∷ SizeOrAlignment ∷ []
two_faults_faults = refl

-- trace { major = 1; minor = 8; byte_order = le; }; event { name = "n"; fields := struct { t a; floating_point { } b;
-- }; };
abbrev pub fault_and_float : List Declaration
fault_and_float =
    le_trace
    ∷ event_with (field (named (codes "t")) (codes "a") ∷ field (Float []) (codes "b") ∷ [])
    ∷ []

pub fault_and_float_faults : told fault_and_float ≡ UnknownType ∷ FloatingPoint ∷ []
fault_and_float_faults = refl

-- trace { major = 1; minor = 8; byte_order = le; }; event { name = "n"; fields := integer { size = 0; }; };
abbrev pub fault_and_no_structure : List Declaration
fault_and_no_structure =
    le_trace
    ∷ Block kind.Event (Assigned (quotes (codes "name") (codes "n")) ∷ Classed (codes "fields" ∷ []) (sized 0) ∷ [])
    ∷ []

pub fault_and_no_structure_faults : told fault_and_no_structure ≡ SizeOrAlignment ∷ []
fault_and_no_structure_faults = refl

-- trace { major = 1; minor = 8; byte_order = le; }; event { name = "n"; fields := struct { t a; }; }; event { fields :=
-- struct { string a, a; }; };
abbrev pub first_declaration : List Declaration
first_declaration =
    le_trace
    ∷ event_with (field (named (codes "t")) (codes "a") ∷ [])
    ∷ Block kind.Event (Classed (codes "fields" ∷ []) (structure (Fields (String []) (declarator (codes "a") [] ∷ declarator (codes "a") [] ∷ []) ∷ [])) ∷ [])
    ∷ []

pub first_declaration_faults : told first_declaration ≡ UnknownType ∷ []
first_declaration_faults = refl
