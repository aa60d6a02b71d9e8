-- What names mean.
use Rattle.std.specs.Prelude.{◌≡◌, false, List, [], ◌∷◌, Some, None, pos, negsuc, codes, refl}
use Rattle.tsdl_tree.specs.declared.tree.BlockKind.TheVariants as kind
use Rattle.tsdl_tree.specs.declared.tree.Container.TheVariants as container
use Rattle.tsdl_tree.specs.declared.tree.Length.TheVariants as lengths
use Rattle.tsdl_tree.specs.declared.tree.Value.TheVariants as value
use Rattle.ctf_bits.specs.declared.number.Order.TheVariants.{Le}
use Rattle.ctf_class.specs.declared.class.Kind.TheVariants as class
use Rattle.ctf_class.specs.declared.integer.Base.TheVariants as base
use Rattle.ctf_meaning.specs.declared.fault.ResolveFault.TheVariants.{UnknownType, DeclaredTwice, Attribute, SizeOrAlignment}
use Rattle.ctf_meaning.specs.Name as name
use Rattle.ctf_meaning.specs.Written.{Declaration, Block, Names, Assigned, Classed, Declared, Integer, Float, String, Struct, Variant, Enum, Named, Fields, Alias, Definition, Compound, items_from}
use Rattle.ctf_meaning.specs.Denotes.{class_of_text}
use Rattle.meaning_tests.proofs.Writing.{le_trace, event_with, denotes_fields, set, counts, quotes, plus, minus, sized, structure, named, field, declarator, container_named, bare, single, ranged, number, unsigned, fixed, covers, inside, choice, made, member, event, stream, trace, told}

-- trace { major = 1; minor = 8; byte_order = le; }; struct x { struct x a; };
abbrev pub own_name_in_body : List Declaration
own_name_in_body =
    le_trace
    ∷ Names (Compound (Struct (Some (codes "x")) (items_from (field (Named (name.Struct (codes "x")) None) (codes "a") ∷ [])) None))
    ∷ []

pub own_name_in_body_faults : told own_name_in_body ≡ UnknownType ∷ []
own_name_in_body_faults = refl

-- struct x { integer { size = 8; } a; }; trace { major = 1; minor = 8; byte_order = le; }; event { name = "n"; fields
-- := struct { struct s { struct x { integer { size = 16; } b; } c; struct x d; } e; }; };
abbrev pub own_name_outer : List Declaration
own_name_outer =
    Names (Compound (Struct (Some (codes "x")) (items_from (field (sized 8) (codes "a") ∷ [])) None))
    ∷ le_trace
    ∷ event_with (field (Struct (Some (codes "s")) (items_from (field (Struct (Some (codes "x")) (items_from (field (sized 16) (codes "b") ∷ [])) None) (codes "c") ∷ field (Named (name.Struct (codes "x")) None) (codes "d") ∷ [])) None) (codes "e") ∷ [])
    ∷ []

pub own_name_outer_faults : told own_name_outer ≡ []
own_name_outer_faults = refl

pub own_name_outer_class : class_of_text own_name_outer ≡ denotes_fields (made 8 4 6 (class.Structure (member (codes "e") (made 8 3 5 (class.Structure (member (codes "c") (made 8 2 2 (class.Structure (member (codes "b") (unsigned 16 8) ∷ []))) ∷ member (codes "d") (made 8 2 2 (class.Structure (member (codes "b") (unsigned 16 8) ∷ []))) ∷ []))) ∷ [])))
own_name_outer_class = refl

-- struct x { integer { size = 8; } a; }; trace { major = 1; minor = 8; byte_order = le; }; event { name = "n"; fields
-- := struct { struct x { struct x b; } y; }; };
abbrev pub own_name_inside_means_outer : List Declaration
own_name_inside_means_outer =
    Names (Compound (Struct (Some (codes "x")) (items_from (field (sized 8) (codes "a") ∷ [])) None))
    ∷ le_trace
    ∷ event_with (field (Struct (Some (codes "x")) (items_from (field (Named (name.Struct (codes "x")) None) (codes "b") ∷ [])) None) (codes "y") ∷ [])
    ∷ []

pub own_name_inside_means_outer_faults : told own_name_inside_means_outer ≡ []
own_name_inside_means_outer_faults = refl

pub own_name_inside_means_outer_class : class_of_text own_name_inside_means_outer ≡ denotes_fields (made 8 4 4 (class.Structure (member (codes "y") (made 8 3 3 (class.Structure (member (codes "b") (made 8 2 2 (class.Structure (member (codes "a") (unsigned 8 8) ∷ []))) ∷ []))) ∷ [])))
own_name_inside_means_outer_class = refl

-- typealias struct x { integer { size = 8; } a; } := y; trace { major = 1; minor = 8; byte_order = le; }; event { name
-- = "n"; fields := struct { struct x a; y b; }; };
abbrev pub name_in_alias_compound : List Declaration
name_in_alias_compound =
    Names (Alias (Struct (Some (codes "x")) (items_from (field (sized 8) (codes "a") ∷ [])) None) (codes "y" ∷ []))
    ∷ le_trace
    ∷ event_with (field (Named (name.Struct (codes "x")) None) (codes "a") ∷ field (named (codes "y")) (codes "b") ∷ [])
    ∷ []

pub name_in_alias_compound_faults : told name_in_alias_compound ≡ []
name_in_alias_compound_faults = refl

pub name_in_alias_compound_class : class_of_text name_in_alias_compound ≡ denotes_fields (made 8 3 5 (class.Structure (member (codes "a") (made 8 2 2 (class.Structure (member (codes "a") (unsigned 8 8) ∷ []))) ∷ member (codes "b") (made 8 2 2 (class.Structure (member (codes "a") (unsigned 8 8) ∷ []))) ∷ [])))
name_in_alias_compound_class = refl

-- trace { major = 1; minor = 8; byte_order = le; }; event { name = "n"; fields := struct { struct x { integer { size =
-- 8; } a; } p; struct x q; }; };
abbrev pub name_in_field_compound : List Declaration
name_in_field_compound =
    le_trace
    ∷ event_with (field (Struct (Some (codes "x")) (items_from (field (sized 8) (codes "a") ∷ [])) None) (codes "p") ∷ field (Named (name.Struct (codes "x")) None) (codes "q") ∷ [])
    ∷ []

pub name_in_field_compound_faults : told name_in_field_compound ≡ []
name_in_field_compound_faults = refl

pub name_in_field_compound_class : class_of_text name_in_field_compound ≡ denotes_fields (made 8 3 5 (class.Structure (member (codes "p") (made 8 2 2 (class.Structure (member (codes "a") (unsigned 8 8) ∷ []))) ∷ member (codes "q") (made 8 2 2 (class.Structure (member (codes "a") (unsigned 8 8) ∷ []))) ∷ [])))
name_in_field_compound_class = refl

-- trace { major = 1; minor = 8; byte_order = le; }; event { name = "n"; context := struct x { }; fields := struct {
-- struct x a; }; };
abbrev pub name_in_scope_class : List Declaration
name_in_scope_class =
    le_trace
    ∷ Block kind.Event (Assigned (quotes (codes "name") (codes "n")) ∷ Classed (codes "context" ∷ []) (Struct (Some (codes "x")) (items_from []) None) ∷ Classed (codes "fields" ∷ []) (structure (field (Named (name.Struct (codes "x")) None) (codes "a") ∷ [])) ∷ [])
    ∷ []

pub name_in_scope_class_faults : told name_in_scope_class ≡ []
name_in_scope_class_faults = refl

pub name_in_scope_class_class : class_of_text name_in_scope_class ≡ Some (trace None None None (stream 0 None None None None (event None 0 (codes "n") (Some (made 1 1 1 (class.Structure []))) (made 1 2 2 (class.Structure (member (codes "a") (made 1 1 1 (class.Structure [])) ∷ []))) ∷ []) ∷ []))
name_in_scope_class_class = refl

-- trace { major = 1; minor = 8; byte_order = le; }; event { name = "n"; context := struct x { }; }; event { name = "m";
-- id = 1; fields := struct { struct x a; }; };
abbrev pub name_in_later_block : List Declaration
name_in_later_block =
    le_trace
    ∷ Block kind.Event (Assigned (quotes (codes "name") (codes "n")) ∷ Classed (codes "context" ∷ []) (Struct (Some (codes "x")) (items_from []) None) ∷ [])
    ∷ Block kind.Event (Assigned (quotes (codes "name") (codes "m")) ∷ Assigned (counts (codes "id") 1) ∷ Classed (codes "fields" ∷ []) (structure (field (Named (name.Struct (codes "x")) None) (codes "a") ∷ [])) ∷ [])
    ∷ []

pub name_in_later_block_faults : told name_in_later_block ≡ UnknownType ∷ []
name_in_later_block_faults = refl

-- trace { major = 1; minor = 8; byte_order = le; }; event { name = "n"; fields := struct { struct { typealias integer {
-- size = 8; } := t; t a; } x; t b; }; };
abbrev pub name_of_body_is_gone : List Declaration
name_of_body_is_gone =
    le_trace
    ∷ event_with (field (structure (Alias (sized 8) (codes "t" ∷ []) ∷ field (named (codes "t")) (codes "a") ∷ [])) (codes "x") ∷ field (named (codes "t")) (codes "b") ∷ [])
    ∷ []

pub name_of_body_is_gone_faults : told name_of_body_is_gone ≡ UnknownType ∷ []
name_of_body_is_gone_faults = refl

-- trace { major = 1; minor = 8; byte_order = le; }; event { name = "n"; fields := struct { enum : integer { size = 8; }
-- { A } g; variant <g> { typealias integer { size = 8; } := t; t A; } x; t b; }; };
abbrev pub name_of_variant_body : List Declaration
name_of_variant_body =
    le_trace
    ∷ event_with (field (Enum None (Some (container.Integer (counts (codes "size") 8 ∷ []))) (bare (codes "A") ∷ [])) (codes "g") ∷ field (Variant None (Some (codes "g" ∷ [])) (items_from (Alias (sized 8) (codes "t" ∷ []) ∷ field (named (codes "t")) (codes "A") ∷ []))) (codes "x") ∷ field (named (codes "t")) (codes "b") ∷ [])
    ∷ []

pub name_of_variant_body_faults : told name_of_variant_body ≡ UnknownType ∷ []
name_of_variant_body_faults = refl

-- typealias integer { size = 8; } := u8; typealias integer { size = 32; } := u32; typedef u8 a[2], b[3][4]; trace {
-- major = 1; minor = 8; byte_order = le; }; event { name = "n"; fields := struct { a x; b y; }; };
abbrev pub typedef_arrays : List Declaration
typedef_arrays =
    Names (Alias (sized 8) (codes "u8" ∷ []))
    ∷ Names (Alias (sized 32) (codes "u32" ∷ []))
    ∷ Names (Definition (named (codes "u8")) (declarator (codes "a") (lengths.Constant 2 ∷ []) ∷ declarator (codes "b") (lengths.Constant 3 ∷ lengths.Constant 4 ∷ []) ∷ []))
    ∷ le_trace
    ∷ event_with (field (named (codes "a")) (codes "x") ∷ field (named (codes "b")) (codes "y") ∷ [])
    ∷ []

pub typedef_arrays_faults : told typedef_arrays ≡ []
typedef_arrays_faults = refl

pub typedef_arrays_class : class_of_text typedef_arrays ≡ denotes_fields (made 8 4 6 (class.Structure (member (codes "x") (made 8 2 2 (class.Array (fixed 2) (unsigned 8 8))) ∷ member (codes "y") (made 8 3 3 (class.Array (fixed 3) (made 8 2 2 (class.Array (fixed 4) (unsigned 8 8))))) ∷ [])))
typedef_arrays_class = refl

-- trace { major = 1; minor = 8; byte_order = le; }; typealias integer { size = 8; } := u8; typealias integer { size =
-- 32; } := u32; typedef u8 a, a;
abbrev pub typedef_twice : List Declaration
typedef_twice =
    le_trace
    ∷ Names (Alias (sized 8) (codes "u8" ∷ []))
    ∷ Names (Alias (sized 32) (codes "u32" ∷ []))
    ∷ Names (Definition (named (codes "u8")) (declarator (codes "a") [] ∷ declarator (codes "a") [] ∷ []))
    ∷ []

pub typedef_twice_faults : told typedef_twice ≡ DeclaredTwice ∷ []
typedef_twice_faults = refl

-- typealias integer { size = 64; } := const unsigned const long; typealias integer { size = 32; } := unsigned; trace {
-- major = 1; minor = 8; byte_order = le; }; event { name = "n"; fields := struct { unsigned long ..
abbrev pub words_of_a_name : List Declaration
words_of_a_name =
    Names (Alias (sized 64) (codes "unsigned" ∷ codes "long" ∷ []))
    ∷ Names (Alias (sized 32) (codes "unsigned" ∷ []))
    ∷ le_trace
    ∷ event_with (field (Named (name.Plain (codes "unsigned" ∷ codes "long" ∷ [])) None) (codes "a") ∷ field (named (codes "unsigned")) (codes "b") ∷ [])
    ∷ []

pub words_of_a_name_faults : told words_of_a_name ≡ []
words_of_a_name_faults = refl

pub words_of_a_name_class : class_of_text words_of_a_name ≡ denotes_fields (made 8 2 3 (class.Structure (member (codes "a") (unsigned 64 8) ∷ member (codes "b") (unsigned 32 8) ∷ [])))
words_of_a_name_class = refl

-- typealias integer { size = 64; } := unsigned long; trace { major = 1; minor = 8; byte_order = le; }; event { name =
-- "n"; fields := struct { long unsigned a; }; };
abbrev pub words_in_order : List Declaration
words_in_order =
    Names (Alias (sized 64) (codes "unsigned" ∷ codes "long" ∷ []))
    ∷ le_trace
    ∷ event_with (field (Named (name.Plain (codes "long" ∷ codes "unsigned" ∷ [])) None) (codes "a") ∷ [])
    ∷ []

pub words_in_order_faults : told words_in_order ≡ UnknownType ∷ []
words_in_order_faults = refl

-- trace { major = 1; minor = 8; byte_order = le; }; typealias integer { size = 8; } := u8; typealias integer { size =
-- 32; } := u32; event { name = "n"; typealias integer { size = 16; } := u8; fields := struct { u8 ..
abbrev pub hidden_in_block : List Declaration
hidden_in_block =
    le_trace
    ∷ Names (Alias (sized 8) (codes "u8" ∷ []))
    ∷ Names (Alias (sized 32) (codes "u32" ∷ []))
    ∷ Block kind.Event (Assigned (quotes (codes "name") (codes "n")) ∷ Declared (Alias (sized 16) (codes "u8" ∷ [])) ∷ Classed (codes "fields" ∷ []) (structure (field (named (codes "u8")) (codes "a") ∷ [])) ∷ [])
    ∷ []

pub hidden_in_block_faults : told hidden_in_block ≡ []
hidden_in_block_faults = refl

pub hidden_in_block_class : class_of_text hidden_in_block ≡ denotes_fields (made 8 2 2 (class.Structure (member (codes "a") (unsigned 16 8) ∷ [])))
hidden_in_block_class = refl

-- trace { major = 1; minor = 8; byte_order = le; }; event { name = "n"; fields := struct { t a; }; typealias integer {
-- size = 16; } := t; };
abbrev pub name_before_in_block : List Declaration
name_before_in_block =
    le_trace
    ∷ Block kind.Event (Assigned (quotes (codes "name") (codes "n")) ∷ Classed (codes "fields" ∷ []) (structure (field (named (codes "t")) (codes "a") ∷ [])) ∷ Declared (Alias (sized 16) (codes "t" ∷ [])) ∷ [])
    ∷ []

pub name_before_in_block_faults : told name_before_in_block ≡ UnknownType ∷ []
name_before_in_block_faults = refl

-- trace { major = 1; minor = 8; byte_order = le; }; event { name = "n"; fields := struct { integer { size = 8; } a;
-- string a; }; };
abbrev pub members_twice : List Declaration
members_twice =
    le_trace
    ∷ event_with (field (sized 8) (codes "a") ∷ field (String []) (codes "a") ∷ [])
    ∷ []

pub members_twice_faults : told members_twice ≡ DeclaredTwice ∷ []
members_twice_faults = refl

-- trace { major = 1; minor = 8; byte_order = le; }; variant v { string a, a; };
abbrev pub options_twice : List Declaration
options_twice =
    le_trace
    ∷ Names (Compound (Variant (Some (codes "v")) None (items_from (Fields (String []) (declarator (codes "a") [] ∷ declarator (codes "a") [] ∷ []) ∷ []))))
    ∷ []

pub options_twice_faults : told options_twice ≡ DeclaredTwice ∷ []
options_twice_faults = refl

-- trace { major = 1; minor = 8; byte_order = le; }; event { name = "n"; fields := struct { typealias integer { size =
-- 8; } := a; a a; }; };
abbrev pub member_and_name : List Declaration
member_and_name =
    le_trace
    ∷ event_with (Alias (sized 8) (codes "a" ∷ []) ∷ field (named (codes "a")) (codes "a") ∷ [])
    ∷ []

pub member_and_name_faults : told member_and_name ≡ []
member_and_name_faults = refl

pub member_and_name_class : class_of_text member_and_name ≡ denotes_fields (made 8 2 2 (class.Structure (member (codes "a") (unsigned 8 8) ∷ [])))
member_and_name_class = refl

-- typealias integer { size = 8; } := u8; typealias integer { size = 32; } := u32; typedef u8 t, t; trace { major = 1;
-- minor = 8; byte_order = le; }; event { name = "n"; fields := struct { t a[4]; }; };
abbrev pub twice_then_means_first : List Declaration
twice_then_means_first =
    Names (Alias (sized 8) (codes "u8" ∷ []))
    ∷ Names (Alias (sized 32) (codes "u32" ∷ []))
    ∷ Names (Definition (named (codes "u8")) (declarator (codes "t") [] ∷ declarator (codes "t") [] ∷ []))
    ∷ le_trace
    ∷ event_with (Fields (named (codes "t")) (declarator (codes "a") (lengths.Constant 4 ∷ []) ∷ []) ∷ [])
    ∷ []

pub twice_then_means_first_faults : told twice_then_means_first ≡ DeclaredTwice ∷ []
twice_then_means_first_faults = refl

-- trace { major = 1; minor = 8; byte_order = le; }; event { name = "n"; other := struct { t a; }; };
abbrev pub ignored_class_unknown : List Declaration
ignored_class_unknown =
    le_trace
    ∷ Block kind.Event (Assigned (quotes (codes "name") (codes "n")) ∷ Classed (codes "other" ∷ []) (structure (field (named (codes "t")) (codes "a") ∷ [])) ∷ [])
    ∷ []

pub ignored_class_unknown_faults : told ignored_class_unknown ≡ UnknownType ∷ []
ignored_class_unknown_faults = refl

-- trace { major = 1; minor = 8; byte_order = le; }; event { name = "n"; other := struct x { integer { size = 8; } a; };
-- fields := struct { struct x b; }; };
abbrev pub ignored_class_name : List Declaration
ignored_class_name =
    le_trace
    ∷ Block kind.Event (Assigned (quotes (codes "name") (codes "n")) ∷ Classed (codes "other" ∷ []) (Struct (Some (codes "x")) (items_from (field (sized 8) (codes "a") ∷ [])) None) ∷ Classed (codes "fields" ∷ []) (structure (field (Named (name.Struct (codes "x")) None) (codes "b") ∷ [])) ∷ [])
    ∷ []

pub ignored_class_name_faults : told ignored_class_name ≡ []
ignored_class_name_faults = refl

pub ignored_class_name_class : class_of_text ignored_class_name ≡ denotes_fields (made 8 3 3 (class.Structure (member (codes "b") (made 8 2 2 (class.Structure (member (codes "a") (unsigned 8 8) ∷ []))) ∷ [])))
ignored_class_name_class = refl

-- trace { major = 1; minor = 8; byte_order = le; }; event { name = "n"; other := struct { floating_point { } a; string
-- s[nowhere]; variant { string q; } v; integer { size = 8; map = clock.q.value; } w; }; };
abbrev pub ignored_class_float : List Declaration
ignored_class_float =
    le_trace
    ∷ Block kind.Event (Assigned (quotes (codes "name") (codes "n")) ∷ Classed (codes "other" ∷ []) (structure (field (Float []) (codes "a") ∷ Fields (String []) (declarator (codes "s") (lengths.Path (codes "nowhere" ∷ []) ∷ []) ∷ []) ∷ field (Variant None None (items_from (field (String []) (codes "q") ∷ []))) (codes "v") ∷ field (Integer (counts (codes "size") 8 ∷ set (codes "map" ∷ []) (value.Name (codes "clock" ∷ codes "q" ∷ codes "value" ∷ [])) ∷ [])) (codes "w") ∷ [])) ∷ [])
    ∷ []

pub ignored_class_float_faults : told ignored_class_float ≡ []
ignored_class_float_faults = refl

pub ignored_class_float_class : class_of_text ignored_class_float ≡ denotes_fields (made 1 1 1 (class.Structure []))
ignored_class_float_class = refl

-- trace { major = 1; minor = 8; byte_order = le; }; event { name = "n"; other := struct { }; other := struct { }; };
abbrev pub ignored_class_twice : List Declaration
ignored_class_twice =
    le_trace
    ∷ Block kind.Event (Assigned (quotes (codes "name") (codes "n")) ∷ Classed (codes "other" ∷ []) (structure []) ∷ Classed (codes "other" ∷ []) (structure []) ∷ [])
    ∷ []

pub ignored_class_twice_faults : told ignored_class_twice ≡ []
ignored_class_twice_faults = refl

pub ignored_class_twice_class : class_of_text ignored_class_twice ≡ denotes_fields (made 1 1 1 (class.Structure []))
ignored_class_twice_class = refl

-- trace { major = 1; minor = 8; byte_order = le; }; event { name = "n"; other := integer { size = 99; }; };
abbrev pub ignored_class_size : List Declaration
ignored_class_size =
    le_trace
    ∷ Block kind.Event (Assigned (quotes (codes "name") (codes "n")) ∷ Classed (codes "other" ∷ []) (sized 99) ∷ [])
    ∷ []

pub ignored_class_size_faults : told ignored_class_size ≡ SizeOrAlignment ∷ []
ignored_class_size_faults = refl

-- enum e : integer { size = 4; } { P, Q = 5, R }; trace { major = 1; minor = 8; byte_order = le; }; event { name = "n";
-- fields := struct { enum e x; }; };
abbrev pub enum_names : List Declaration
enum_names =
    Names (Compound (Enum (Some (codes "e")) (Some (container.Integer (counts (codes "size") 4 ∷ []))) (bare (codes "P") ∷ single (codes "Q") (plus 5) ∷ bare (codes "R") ∷ [])))
    ∷ le_trace
    ∷ event_with (field (Named (name.Enum (codes "e")) None) (codes "x") ∷ [])
    ∷ []

pub enum_names_faults : told enum_names ≡ []
enum_names_faults = refl

pub enum_names_class : class_of_text enum_names ≡ denotes_fields (made 1 2 2 (class.Structure (member (codes "x") (made 1 1 1 (class.Enumeration (number 4 false base.Decimal Le false) (covers (codes "P") (pos 0) (pos 0) ∷ covers (codes "Q") (pos 5) (pos 5) ∷ covers (codes "R") (pos 6) (pos 6) ∷ []))) ∷ [])))
enum_names_class = refl

-- typealias integer { size = 8; } := u8; typealias integer { size = 32; } := u32; trace { major = 1; minor = 8;
-- byte_order = le; }; event { name = "n"; fields := struct { enum : u8 { A = -1, B } e; }; };
abbrev pub enum_container_named : List Declaration
enum_container_named =
    Names (Alias (sized 8) (codes "u8" ∷ []))
    ∷ Names (Alias (sized 32) (codes "u32" ∷ []))
    ∷ le_trace
    ∷ event_with (field (Enum None (Some (container_named (codes "u8" ∷ []))) (single (codes "A") (minus 1) ∷ bare (codes "B") ∷ [])) (codes "e") ∷ [])
    ∷ []

pub enum_container_named_faults : told enum_container_named ≡ []
enum_container_named_faults = refl

pub enum_container_named_class : class_of_text enum_container_named ≡ denotes_fields (made 8 2 2 (class.Structure (member (codes "e") (made 8 1 1 (class.Enumeration (number 8 false base.Decimal Le false) (covers (codes "A") (negsuc 0) (negsuc 0) ∷ covers (codes "B") (pos 0) (pos 0) ∷ []))) ∷ [])))
enum_container_named_class = refl

-- typealias integer { size = 8; } := int; trace { major = 1; minor = 8; byte_order = le; }; event { name = "n"; fields
-- := struct { typealias integer { size = 3; } := int; enum { A } e; }; };
abbrev pub enum_int_local : List Declaration
enum_int_local =
    Names (Alias (sized 8) (codes "int" ∷ []))
    ∷ le_trace
    ∷ event_with (Alias (sized 3) (codes "int" ∷ []) ∷ field (Enum None None (bare (codes "A") ∷ [])) (codes "e") ∷ [])
    ∷ []

pub enum_int_local_faults : told enum_int_local ≡ []
enum_int_local_faults = refl

pub enum_int_local_class : class_of_text enum_int_local ≡ denotes_fields (made 1 2 2 (class.Structure (member (codes "e") (made 1 1 1 (class.Enumeration (number 3 false base.Decimal Le false) (covers (codes "A") (pos 0) (pos 0) ∷ []))) ∷ [])))
enum_int_local_class = refl

-- typealias string := int; trace { major = 1; minor = 8; byte_order = le; }; event { name = "n"; fields := struct {
-- enum { A } e; }; };
abbrev pub enum_int_no_integer : List Declaration
enum_int_no_integer =
    Names (Alias (String []) (codes "int" ∷ []))
    ∷ le_trace
    ∷ event_with (field (Enum None None (bare (codes "A") ∷ [])) (codes "e") ∷ [])
    ∷ []

pub enum_int_no_integer_faults : told enum_int_no_integer ≡ Attribute ∷ []
enum_int_no_integer_faults = refl

-- typealias floating_point { } := f; trace { major = 1; minor = 8; byte_order = le; }; event { name = "n"; fields :=
-- struct { enum : f { A } e; }; };
abbrev pub enum_container_float : List Declaration
enum_container_float =
    Names (Alias (Float []) (codes "f" ∷ []))
    ∷ le_trace
    ∷ event_with (field (Enum None (Some (container_named (codes "f" ∷ []))) (bare (codes "A") ∷ [])) (codes "e") ∷ [])
    ∷ []

pub enum_container_float_faults : told enum_container_float ≡ Attribute ∷ []
enum_container_float_faults = refl

-- trace { major = 1; minor = 8; byte_order = le; }; event { name = "n"; fields := struct { enum : f { A } e; }; };
abbrev pub enum_container_unknown : List Declaration
enum_container_unknown =
    le_trace
    ∷ event_with (field (Enum None (Some (container_named (codes "f" ∷ []))) (bare (codes "A") ∷ [])) (codes "e") ∷ [])
    ∷ []

pub enum_container_unknown_faults : told enum_container_unknown ≡ UnknownType ∷ []
enum_container_unknown_faults = refl

-- typealias integer { size = 8; } := u8; typealias integer { size = 32; } := u32; typedef u8 f[2]; trace { major = 1;
-- minor = 8; byte_order = le; }; event { name = "n"; fields := struct { enum : f { A } e; }; };
abbrev pub enum_container_array : List Declaration
enum_container_array =
    Names (Alias (sized 8) (codes "u8" ∷ []))
    ∷ Names (Alias (sized 32) (codes "u32" ∷ []))
    ∷ Names (Definition (named (codes "u8")) (declarator (codes "f") (lengths.Constant 2 ∷ []) ∷ []))
    ∷ le_trace
    ∷ event_with (field (Enum None (Some (container_named (codes "f" ∷ []))) (bare (codes "A") ∷ [])) (codes "e") ∷ [])
    ∷ []

pub enum_container_array_faults : told enum_container_array ≡ Attribute ∷ []
enum_container_array_faults = refl

-- trace { major = 1; minor = 8; byte_order = le; }; event { name = "n"; fields := struct { enum : integer { size = 0; }
-- { A } e; }; };
abbrev pub enum_container_size : List Declaration
enum_container_size =
    le_trace
    ∷ event_with (field (Enum None (Some (container.Integer (counts (codes "size") 0 ∷ []))) (bare (codes "A") ∷ [])) (codes "e") ∷ [])
    ∷ []

pub enum_container_size_faults : told enum_container_size ≡ SizeOrAlignment ∷ []
enum_container_size_faults = refl

-- typealias integer { size = 8; } := u8; typealias integer { size = 32; } := u32; trace { major = 1; minor = 8;
-- byte_order = le; }; event { name = "n"; fields := struct { enum : u8 { A = 3 ... 2 } e; }; };
abbrev pub enum_backwards : List Declaration
enum_backwards =
    Names (Alias (sized 8) (codes "u8" ∷ []))
    ∷ Names (Alias (sized 32) (codes "u32" ∷ []))
    ∷ le_trace
    ∷ event_with (field (Enum None (Some (container_named (codes "u8" ∷ []))) (ranged (codes "A") (plus 3) (plus 2) ∷ [])) (codes "e") ∷ [])
    ∷ []

pub enum_backwards_faults : told enum_backwards ≡ Attribute ∷ []
enum_backwards_faults = refl

-- typealias integer { size = 8; } := u8; typealias integer { size = 32; } := u32; trace { major = 1; minor = 8;
-- byte_order = le; }; event { name = "n"; fields := struct { enum : u8 { A = -9223372036854775809 } e; }; };
abbrev pub enum_minus : List Declaration
enum_minus =
    Names (Alias (sized 8) (codes "u8" ∷ []))
    ∷ Names (Alias (sized 32) (codes "u32" ∷ []))
    ∷ le_trace
    ∷ event_with (field (Enum None (Some (container_named (codes "u8" ∷ []))) (single (codes "A") (minus 9223372036854775809) ∷ [])) (codes "e") ∷ [])
    ∷ []

pub enum_minus_faults : told enum_minus ≡ Attribute ∷ []
enum_minus_faults = refl

-- typealias integer { size = 8; } := u8; typealias integer { size = 32; } := u32; trace { major = 1; minor = 8;
-- byte_order = le; }; event { name = "n"; fields := struct { enum : u8 { A = -9223372036854775808, B = ..
abbrev pub enum_minus_ok : List Declaration
enum_minus_ok =
    Names (Alias (sized 8) (codes "u8" ∷ []))
    ∷ Names (Alias (sized 32) (codes "u32" ∷ []))
    ∷ le_trace
    ∷ event_with (field (Enum None (Some (container_named (codes "u8" ∷ []))) (single (codes "A") (minus 9223372036854775808) ∷ single (codes "B") (plus 18446744073709551615) ∷ bare (codes "C") ∷ [])) (codes "e") ∷ [])
    ∷ []

pub enum_minus_ok_faults : told enum_minus_ok ≡ []
enum_minus_ok_faults = refl

pub enum_minus_ok_class : class_of_text enum_minus_ok ≡ denotes_fields (made 8 2 2 (class.Structure (member (codes "e") (made 8 1 1 (class.Enumeration (number 8 false base.Decimal Le false) (covers (codes "A") (negsuc 9223372036854775807) (negsuc 9223372036854775807) ∷ covers (codes "B") (pos 18446744073709551615) (pos 18446744073709551615) ∷ covers (codes "C") (pos 18446744073709551616) (pos 18446744073709551616) ∷ []))) ∷ [])))
enum_minus_ok_class = refl

-- typealias integer { size = 8; } := u8; typealias integer { size = 32; } := u32; trace { major = 1; minor = 8;
-- byte_order = le; }; event { name = "n"; fields := struct { enum : u8 { A, A = 5 ... 7, B } e; }; };
abbrev pub enum_repeated_label : List Declaration
enum_repeated_label =
    Names (Alias (sized 8) (codes "u8" ∷ []))
    ∷ Names (Alias (sized 32) (codes "u32" ∷ []))
    ∷ le_trace
    ∷ event_with (field (Enum None (Some (container_named (codes "u8" ∷ []))) (bare (codes "A") ∷ ranged (codes "A") (plus 5) (plus 7) ∷ bare (codes "B") ∷ [])) (codes "e") ∷ [])
    ∷ []

pub enum_repeated_label_faults : told enum_repeated_label ≡ []
enum_repeated_label_faults = refl

pub enum_repeated_label_class : class_of_text enum_repeated_label ≡ denotes_fields (made 8 2 2 (class.Structure (member (codes "e") (made 8 1 1 (class.Enumeration (number 8 false base.Decimal Le false) (covers (codes "A") (pos 0) (pos 0) ∷ covers (codes "A") (pos 5) (pos 7) ∷ covers (codes "B") (pos 8) (pos 8) ∷ []))) ∷ [])))
enum_repeated_label_class = refl

-- struct x { integer { size = 8; } a; }; variant x { integer { size = 16; } P; }; enum x : integer { size = 4; } { P };
-- typealias integer { size = 24; } := x; trace { major = 1; minor = 8; byte_order = le; }; event { name = "n"; fields
-- := struct { x p; struct x q; enum x r; variant x <r> s; }; };
abbrev pub kinds_apart : List Declaration
kinds_apart =
    Names (Compound (Struct (Some (codes "x")) (items_from (field (sized 8) (codes "a") ∷ [])) None))
    ∷ Names (Compound (Variant (Some (codes "x")) None (items_from (field (sized 16) (codes "P") ∷ []))))
    ∷ Names (Compound (Enum (Some (codes "x")) (Some (container.Integer (counts (codes "size") 4 ∷ []))) (bare (codes "P") ∷ [])))
    ∷ Names (Alias (sized 24) (codes "x" ∷ []))
    ∷ le_trace
    ∷ event_with (field (named (codes "x")) (codes "p") ∷ field (Named (name.Struct (codes "x")) None) (codes "q") ∷ field (Named (name.Enum (codes "x")) None) (codes "r") ∷ field (Named (name.Variant (codes "x")) (Some (codes "r" ∷ []))) (codes "s") ∷ [])
    ∷ []

pub kinds_apart_faults : told kinds_apart ≡ []
kinds_apart_faults = refl

pub kinds_apart_class : class_of_text kinds_apart ≡ denotes_fields (made 8 3 7 (class.Structure (
    member (codes "p") (unsigned 24 8)
    ∷ member (codes "q") (made 8 2 2 (class.Structure (member (codes "a") (unsigned 8 8) ∷ [])))
    ∷ member (codes "r") (made 1 1 1 (class.Enumeration (number 4 false base.Decimal Le false) (covers (codes "P") (pos 0) (pos 0) ∷ [])))
    ∷ member (codes "s") (made 1 2 2 (class.Variant (inside 0 (2 ∷ [])) (choice (pos 0) (pos 0) 0 ∷ []) (member (codes "P") (unsigned 16 8) ∷ [])))
    ∷ [])))
kinds_apart_class = refl
