-- Examples of each fault, and of texts that have none.
use Rattle.std.specs.Prelude.{◌≡◌, true, false, List, [], ◌∷◌, Some, None, pos, codes, refl}
use Rattle.tsdl_tree.specs.declared.tree.BlockKind.TheVariants as kind
use Rattle.tsdl_tree.specs.declared.tree.Container.TheVariants as container
use Rattle.tsdl_tree.specs.declared.tree.Length.TheVariants as lengths
use Rattle.tsdl_tree.specs.declared.tree.Value.TheVariants as value
use Rattle.ctf_bits.specs.declared.number.Order.TheVariants.{Le}
use Rattle.ctf_class.specs.declared.class.Kind.TheVariants as class
use Rattle.ctf_class.specs.declared.integer.Base.TheVariants as base
use Rattle.ctf_meaning.specs.declared.fault.ResolveFault.TheVariants.{UnknownType, DeclaredTwice, Attribute, FloatingPoint, SizeOrAlignment, LengthOrTag, Clock}
use Rattle.ctf_meaning.specs.Written.{Declaration, Block, Names, Assigned, Classed, Integer, Float, Struct, Enum, Fields, Alias, Compound, items_from}
use Rattle.ctf_meaning.specs.Denotes.{class_of_text}
use Rattle.meaning_tests.proofs.Writing.{le_trace, clock_named, event_with, denotes_fields, set, counts, says, quotes, plus, sized, structure, named, field, declarator, bare, single, number, unsigned, covers, made, member, clock, event, stream, trace, told}

-- typealias integer { size = 8; } := t; trace { major = 1; minor = 8; byte_order = le; }; event { name = "n"; fields :=
-- struct { struct { typealias integer { size = 16; } := t; t a; } x; t b; }; };
abbrev pub inner_name_hides : List Declaration
inner_name_hides =
    Names (Alias (sized 8) (codes "t" ∷ []))
    ∷ le_trace
    ∷ event_with (field (structure (Alias (sized 16) (codes "t" ∷ []) ∷ field (named (codes "t")) (codes "a") ∷ [])) (codes "x") ∷ field (named (codes "t")) (codes "b") ∷ [])
    ∷ []

pub inner_name_hides_faults : told inner_name_hides ≡ []
inner_name_hides_faults = refl

pub inner_name_hides_class : class_of_text inner_name_hides ≡ denotes_fields (made 8 3 4 (class.Structure (member (codes "x") (made 8 2 2 (class.Structure (member (codes "a") (unsigned 16 8) ∷ []))) ∷ member (codes "b") (unsigned 8 8) ∷ [])))
inner_name_hides_class = refl

-- trace { major = 1; minor = 8; byte_order = le; }; event { name = "n"; fields := struct { t a; }; }; typealias integer
-- { size = 8; } := t;
abbrev pub name_after_use : List Declaration
name_after_use =
    le_trace
    ∷ event_with (field (named (codes "t")) (codes "a") ∷ [])
    ∷ Names (Alias (sized 8) (codes "t" ∷ []))
    ∷ []

pub name_after_use_faults : told name_after_use ≡ UnknownType ∷ []
name_after_use_faults = refl

-- struct x { }; typealias integer { size = 8; } := x; trace { major = 1; minor = 8; byte_order = le; };
abbrev pub four_kinds : List Declaration
four_kinds =
    Names (Compound (Struct (Some (codes "x")) (items_from []) None))
    ∷ Names (Alias (sized 8) (codes "x" ∷ []))
    ∷ le_trace
    ∷ []

pub four_kinds_faults : told four_kinds ≡ []
four_kinds_faults = refl

pub four_kinds_class : class_of_text four_kinds ≡ Some (trace None None None (stream 0 None None None None [] ∷ []))
four_kinds_class = refl

-- struct x { }; typealias integer { size = 8; } := x; typealias integer { size = 8; } := x; trace { major = 1; minor =
-- 8; byte_order = le; };
abbrev pub name_twice : List Declaration
name_twice =
    Names (Compound (Struct (Some (codes "x")) (items_from []) None))
    ∷ Names (Alias (sized 8) (codes "x" ∷ []))
    ∷ Names (Alias (sized 8) (codes "x" ∷ []))
    ∷ le_trace
    ∷ []

pub name_twice_faults : told name_twice ≡ DeclaredTwice ∷ []
name_twice_faults = refl

-- trace { major = 1; minor = 8; byte_order = le; }; event { name = "n"; fields := struct { enum { A } e; }; };
abbrev pub no_int : List Declaration
no_int =
    le_trace
    ∷ event_with (field (Enum None None (bare (codes "A") ∷ [])) (codes "e") ∷ [])
    ∷ []

pub no_int_faults : told no_int ≡ UnknownType ∷ []
no_int_faults = refl

-- trace { major = 1; minor = 8; byte_order = le; }; event { name = "n"; fields := struct { integer { size = 0; } a; };
-- };
abbrev pub size_0 : List Declaration
size_0 =
    le_trace
    ∷ event_with (field (sized 0) (codes "a") ∷ [])
    ∷ []

pub size_0_faults : told size_0 ≡ SizeOrAlignment ∷ []
size_0_faults = refl

-- trace { major = 1; minor = 8; byte_order = le; }; event { name = "n"; fields := struct { integer { size = 65; } a; };
-- };
abbrev pub size_65 : List Declaration
size_65 =
    le_trace
    ∷ event_with (field (sized 65) (codes "a") ∷ [])
    ∷ []

pub size_65_faults : told size_65 ≡ SizeOrAlignment ∷ []
size_65_faults = refl

-- trace { major = 1; minor = 8; byte_order = le; }; event { name = "n"; fields := struct { integer { size = 8; align =
-- 3; } a; }; };
abbrev pub align_3 : List Declaration
align_3 =
    le_trace
    ∷ event_with (field (Integer (counts (codes "size") 8 ∷ counts (codes "align") 3 ∷ [])) (codes "a") ∷ [])
    ∷ []

pub align_3_faults : told align_3 ≡ SizeOrAlignment ∷ []
align_3_faults = refl

-- trace { major = 1; minor = 8; byte_order = le; }; event { name = "n"; fields := struct { integer { align = 8; } a; };
-- };
abbrev pub no_size : List Declaration
no_size =
    le_trace
    ∷ event_with (field (Integer (counts (codes "align") 8 ∷ [])) (codes "a") ∷ [])
    ∷ []

pub no_size_faults : told no_size ≡ Attribute ∷ []
no_size_faults = refl

-- trace { major = 1; minor = 8; byte_order = le; }; event { name = "n"; fields := struct { integer { size = 8; signed =
-- true; } n; integer { size = 8; } s[n]; }; };
abbrev pub signed_length : List Declaration
signed_length =
    le_trace
    ∷ event_with (field (Integer (counts (codes "size") 8 ∷ says (codes "signed") (codes "true") ∷ [])) (codes "n") ∷ Fields (sized 8) (declarator (codes "s") (lengths.Path (codes "n" ∷ []) ∷ []) ∷ []) ∷ [])
    ∷ []

pub signed_length_faults : told signed_length ≡ LengthOrTag ∷ []
signed_length_faults = refl

-- clock { name = "a"; }; clock { name = "b"; }; trace { major = 1; minor = 8; byte_order = le; }; stream { event.header
-- := struct { integer { size = 8; map = clock.a.value; } x; integer { size = 8; map = ..
abbrev pub two_clocks_moved : List Declaration
two_clocks_moved =
    clock_named (codes "a")
    ∷ clock_named (codes "b")
    ∷ le_trace
    ∷ Block kind.Stream (Classed (codes "event" ∷ codes "header" ∷ []) (structure (field (Integer (counts (codes "size") 8 ∷ set (codes "map" ∷ []) (value.Name (codes "clock" ∷ codes "a" ∷ codes "value" ∷ [])) ∷ [])) (codes "x") ∷ field (Integer (counts (codes "size") 8 ∷ set (codes "map" ∷ []) (value.Name (codes "clock" ∷ codes "b" ∷ codes "value" ∷ [])) ∷ [])) (codes "y") ∷ [])) ∷ [])
    ∷ []

pub two_clocks_moved_faults : told two_clocks_moved ≡ Clock ∷ []
two_clocks_moved_faults = refl

-- clock { name = "a"; }; clock { name = "b"; }; trace { major = 1; minor = 8; byte_order = le; }; stream { event.header
-- := struct { integer { size = 8; map = clock.a.value; } x; integer { size = 8; map = ..
abbrev pub two_clocks_and_unknown : List Declaration
two_clocks_and_unknown =
    clock_named (codes "a")
    ∷ clock_named (codes "b")
    ∷ le_trace
    ∷ Block kind.Stream (Classed (codes "event" ∷ codes "header" ∷ []) (structure (field (Integer (counts (codes "size") 8 ∷ set (codes "map" ∷ []) (value.Name (codes "clock" ∷ codes "a" ∷ codes "value" ∷ [])) ∷ [])) (codes "x") ∷ field (Integer (counts (codes "size") 8 ∷ set (codes "map" ∷ []) (value.Name (codes "clock" ∷ codes "b" ∷ codes "value" ∷ [])) ∷ [])) (codes "y") ∷ [])) ∷ [])
    ∷ event_with (field (named (codes "t")) (codes "a") ∷ [])
    ∷ []

pub two_clocks_and_unknown_faults : told two_clocks_and_unknown ≡ UnknownType ∷ []
two_clocks_and_unknown_faults = refl

-- clock { name = "a"; }; clock { name = "b"; }; trace { major = 1; minor = 8; byte_order = le; }; stream { id = 0;
-- event.header := struct { integer { size = 8; map = clock.a.value; } x; }; }; stream { id = 1; ..
abbrev pub a_clock_each : List Declaration
a_clock_each =
    clock_named (codes "a")
    ∷ clock_named (codes "b")
    ∷ le_trace
    ∷ Block kind.Stream (Assigned (counts (codes "id") 0) ∷ Classed (codes "event" ∷ codes "header" ∷ []) (structure (field (Integer (counts (codes "size") 8 ∷ set (codes "map" ∷ []) (value.Name (codes "clock" ∷ codes "a" ∷ codes "value" ∷ [])) ∷ [])) (codes "x") ∷ [])) ∷ [])
    ∷ Block kind.Stream (Assigned (counts (codes "id") 1) ∷ Classed (codes "event" ∷ codes "header" ∷ []) (structure (field (Integer (counts (codes "size") 8 ∷ set (codes "map" ∷ []) (value.Name (codes "clock" ∷ codes "b" ∷ codes "value" ∷ [])) ∷ [])) (codes "x") ∷ [])) ∷ [])
    ∷ []

pub a_clock_each_faults : told a_clock_each ≡ []
a_clock_each_faults = refl

pub a_clock_each_class : class_of_text a_clock_each ≡ Some (trace None None None (stream 0 None (Some (made 8 2 2 (class.Structure (member (codes "x") (made 8 1 1 (class.Integer (number 8 false base.Decimal Le true))) ∷ [])))) None (Some (clock (codes "a") 1000000000 (pos 0) (pos 0))) [] ∷ stream 1 None (Some (made 8 2 2 (class.Structure (member (codes "x") (made 8 1 1 (class.Integer (number 8 false base.Decimal Le true))) ∷ [])))) None (Some (clock (codes "b") 1000000000 (pos 0) (pos 0))) [] ∷ []))
a_clock_each_class = refl

-- typealias floating_point { exp_dig = 8; mant_dig = 24; } := float; trace { major = 1; minor = 8; byte_order = le; };
-- event { name = "tick"; fields := struct { integer { size = 8; } a; integer { size = 16; } b; }; };
abbrev pub float_unused : List Declaration
float_unused =
    Names (Alias (Float (counts (codes "exp_dig") 8 ∷ counts (codes "mant_dig") 24 ∷ [])) (codes "float" ∷ []))
    ∷ le_trace
    ∷ Block kind.Event (Assigned (quotes (codes "name") (codes "tick")) ∷ Classed (codes "fields" ∷ []) (structure (field (sized 8) (codes "a") ∷ field (sized 16) (codes "b") ∷ [])) ∷ [])
    ∷ []

pub float_unused_faults : told float_unused ≡ []
float_unused_faults = refl

pub float_unused_class : class_of_text float_unused ≡ Some (trace None None None (stream 0 None None None None (event None 0 (codes "tick") None (made 8 2 3 (class.Structure (member (codes "a") (unsigned 8 8) ∷ member (codes "b") (unsigned 16 8) ∷ []))) ∷ []) ∷ []))
float_unused_class = refl

-- typealias floating_point { exp_dig = 8; mant_dig = 24; } := float; trace { major = 1; minor = 8; byte_order = le; };
-- event { name = "tick"; fields := struct { integer { size = 8; } a; integer { size = 16; } b; ..
abbrev pub float_used : List Declaration
float_used =
    Names (Alias (Float (counts (codes "exp_dig") 8 ∷ counts (codes "mant_dig") 24 ∷ [])) (codes "float" ∷ []))
    ∷ le_trace
    ∷ Block kind.Event (Assigned (quotes (codes "name") (codes "tick")) ∷ Classed (codes "fields" ∷ []) (structure (field (sized 8) (codes "a") ∷ field (sized 16) (codes "b") ∷ field (named (codes "float")) (codes "f") ∷ [])) ∷ [])
    ∷ []

pub float_used_faults : told float_used ≡ FloatingPoint ∷ []
float_used_faults = refl

abbrev pub nothing : List Declaration
nothing = []

pub nothing_faults : told nothing ≡ Attribute ∷ []
nothing_faults = refl

-- trace { major = 1; minor = 8; byte_order = le; }; event { name = "x"; fields := struct { enum : integer { size = 8; }
-- { A = 255, B } e; }; };
abbrev pub label_past_container : List Declaration
label_past_container =
    le_trace
    ∷ Block kind.Event (Assigned (quotes (codes "name") (codes "x")) ∷ Classed (codes "fields" ∷ []) (structure (field (Enum None (Some (container.Integer (counts (codes "size") 8 ∷ []))) (single (codes "A") (plus 255) ∷ bare (codes "B") ∷ [])) (codes "e") ∷ [])) ∷ [])
    ∷ []

pub label_past_container_faults : told label_past_container ≡ []
label_past_container_faults = refl

pub label_past_container_class : class_of_text label_past_container ≡ Some (trace None None None (stream 0 None None None None (event None 0 (codes "x") None (made 8 2 2 (class.Structure (member (codes "e") (made 8 1 1 (class.Enumeration (number 8 false base.Decimal Le false) (covers (codes "A") (pos 255) (pos 255) ∷ covers (codes "B") (pos 256) (pos 256) ∷ []))) ∷ []))) ∷ []) ∷ []))
label_past_container_class = refl
