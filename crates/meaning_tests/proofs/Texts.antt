-- Whole traces, each with its class: texts as tracers write them, and small ones.
use Rattle.std.specs.Prelude.{◌≡◌, true, false, List, [], ◌∷◌, Some, None, pos, codes, refl}
use Rattle.uuid.specs.Text.{by_index}
use Rattle.tsdl_tree.specs.declared.tree.BlockKind.TheVariants as kind
use Rattle.tsdl_tree.specs.declared.tree.TableKind.TheVariants as table
use Rattle.tsdl_tree.specs.declared.tree.Container.TheVariants as container
use Rattle.tsdl_tree.specs.declared.tree.Length.TheVariants as lengths
use Rattle.tsdl_tree.specs.declared.tree.Value.TheVariants as value
use Rattle.ctf_bits.specs.declared.number.Order.TheVariants.{Le, Be}
use Rattle.ctf_class.specs.declared.class.Kind.TheVariants as class
use Rattle.ctf_class.specs.declared.integer.Base.TheVariants as base
use Rattle.ctf_meaning.specs.Name as name
use Rattle.ctf_meaning.specs.Written.{Declaration, Block, Table, Names, Assigned, Classed, Integer, String, Struct, Variant, Enum, Named, Fields, Alias, Compound, items_from}
use Rattle.ctf_meaning.specs.Denotes.{class_of_text}
use Rattle.meaning_tests.proofs.Writing.{le_trace, be_trace, clock_named, set, counts, says, quotes, plus, sized, structure, named, field, declarator, container_named, bare, single, ranged, number, unsigned, fixed, counted, inside, covers, choice, made, member, clock, event, stream, trace, told}

-- trace { major = 1; minor = 8; byte_order = le; }; event { name = "tick"; fields := struct { integer { size = 8; } a;
-- integer { size = 16; } b; }; };
abbrev pub MA : List Declaration
MA =
    le_trace
    ∷ Block kind.Event (Assigned (quotes (codes "name") (codes "tick")) ∷ Classed (codes "fields" ∷ []) (structure (field (sized 8) (codes "a") ∷ field (sized 16) (codes "b") ∷ [])) ∷ [])
    ∷ []

pub MA_faults : told MA ≡ []
MA_faults = refl

pub MA_class : class_of_text MA ≡ Some (trace None None None (stream 0 None None None None (event None 0 (codes "tick") None (made 8 2 3 (class.Structure (member (codes "a") (unsigned 8 8) ∷ member (codes "b") (unsigned 16 8) ∷ []))) ∷ []) ∷ []))
MA_class = refl

-- trace { major = 1; minor = 8; byte_order = le; }; clock { name = "m"; }; typealias integer { size = 5; align = 1; }
-- := u5; typealias integer { size = 27; align = 1; map = clock.m.value; } := u27; typealias ..
abbrev pub MC : List Declaration
MC =
    le_trace
    ∷ clock_named (codes "m")
    ∷ Names (Alias (Integer (counts (codes "size") 5 ∷ counts (codes "align") 1 ∷ [])) (codes "u5" ∷ []))
    ∷ Names (Alias (Integer (counts (codes "size") 27 ∷ counts (codes "align") 1 ∷ set (codes "map" ∷ []) (value.Name (codes "clock" ∷ codes "m" ∷ codes "value" ∷ [])) ∷ [])) (codes "u27" ∷ []))
    ∷ Names (Alias (Integer (counts (codes "size") 32 ∷ counts (codes "align") 8 ∷ [])) (codes "u32" ∷ []))
    ∷ Names (Alias (Integer (counts (codes "size") 64 ∷ counts (codes "align") 8 ∷ set (codes "map" ∷ []) (value.Name (codes "clock" ∷ codes "m" ∷ codes "value" ∷ [])) ∷ [])) (codes "u64" ∷ []))
    ∷ Block kind.Stream (Classed (codes "event" ∷ codes "header" ∷ []) (Struct None (items_from (field (Enum None (Some (container_named (codes "u5" ∷ []))) (ranged (codes "compact") (plus 0) (plus 30) ∷ single (codes "extended") (plus 31) ∷ [])) (codes "id") ∷ field (Variant None (Some (codes "id" ∷ [])) (items_from (field (structure (field (named (codes "u27")) (codes "timestamp") ∷ [])) (codes "compact") ∷ field (structure (field (named (codes "u32")) (codes "id") ∷ field (named (codes "u64")) (codes "timestamp") ∷ [])) (codes "extended") ∷ []))) (codes "v") ∷ [])) (Some 8)) ∷ [])
    ∷ Block kind.Event (Assigned (quotes (codes "name") (codes "e0")) ∷ Assigned (counts (codes "id") 0) ∷ [])
    ∷ Block kind.Event (Assigned (quotes (codes "name") (codes "e5")) ∷ Assigned (counts (codes "id") 5) ∷ [])
    ∷ Block kind.Event (Assigned (quotes (codes "name") (codes "e40")) ∷ Assigned (counts (codes "id") 40) ∷ [])
    ∷ []

pub MC_faults : told MC ≡ []
MC_faults = refl

pub MC_class : class_of_text MC ≡ Some (trace None None None (stream 0 None (Some (made 8 4 8 (class.Structure (member (codes "id") (made 1 1 1 (class.Enumeration (number 5 false base.Decimal Le false) (covers (codes "compact") (pos 0) (pos 30) ∷ covers (codes "extended") (pos 31) (pos 31) ∷ []))) ∷ member (codes "v") (made 1 3 6 (class.Variant (inside 0 (0 ∷ [])) (choice (pos 0) (pos 30) 0 ∷ choice (pos 31) (pos 31) 1 ∷ []) (member (codes "compact") (made 1 2 2 (class.Structure (member (codes "timestamp") (made 1 1 1 (class.Integer (number 27 false base.Decimal Le true))) ∷ []))) ∷ member (codes "extended") (made 8 2 3 (class.Structure (member (codes "id") (unsigned 32 8) ∷ member (codes "timestamp") (made 8 1 1 (class.Integer (number 64 false base.Decimal Le true))) ∷ []))) ∷ []))) ∷ [])))) None (Some (clock (codes "m") 1000000000 (pos 0) (pos 0))) (event None 0 (codes "e0") None (made 1 1 1 (class.Structure [])) ∷ event None 5 (codes "e5") None (made 1 1 1 (class.Structure [])) ∷ event None 40 (codes "e40") None (made 1 1 1 (class.Structure [])) ∷ []) ∷ []))
MC_class = refl

-- trace { major = 1; minor = 8; byte_order = be; }; clock { name = "c"; }; stream { packet.context := struct { integer
-- { size = 8; } packet_size; integer { size = 8; } content_size; integer { size = 8; } ..
abbrev pub MP : List Declaration
MP =
    be_trace
    ∷ clock_named (codes "c")
    ∷ Block kind.Stream (Classed (codes "packet" ∷ codes "context" ∷ []) (structure (field (sized 8) (codes "packet_size") ∷ field (sized 8) (codes "content_size") ∷ field (sized 8) (codes "events_discarded") ∷ [])) ∷ Classed (codes "event" ∷ codes "header" ∷ []) (structure (field (Integer (counts (codes "size") 8 ∷ set (codes "map" ∷ []) (value.Name (codes "clock" ∷ codes "c" ∷ codes "value" ∷ [])) ∷ [])) (codes "timestamp") ∷ [])) ∷ [])
    ∷ Block kind.Event (Assigned (quotes (codes "name") (codes "p")) ∷ [])
    ∷ []

pub MP_faults : told MP ≡ []
MP_faults = refl

pub MP_class : class_of_text MP ≡ Some (trace None None None (stream 0 (Some (made 8 2 4 (class.Structure (member (codes "packet_size") (made 8 1 1 (class.Integer (number 8 false base.Decimal Be false))) ∷ member (codes "content_size") (made 8 1 1 (class.Integer (number 8 false base.Decimal Be false))) ∷ member (codes "events_discarded") (made 8 1 1 (class.Integer (number 8 false base.Decimal Be false))) ∷ [])))) (Some (made 8 2 2 (class.Structure (member (codes "timestamp") (made 8 1 1 (class.Integer (number 8 false base.Decimal Be true))) ∷ [])))) None (Some (clock (codes "c") 1000000000 (pos 0) (pos 0))) (event None 0 (codes "p") None (made 1 1 1 (class.Structure [])) ∷ []) ∷ []))
MP_class = refl

-- trace { major = 1; minor = 8; byte_order = le; }; event { name = "q"; fields := struct { integer { size = 8; } n;
-- integer { size = 32; align = 32; } s[n]; integer { size = 8; } z; }; };
abbrev pub MQ : List Declaration
MQ =
    le_trace
    ∷ Block kind.Event (Assigned (quotes (codes "name") (codes "q")) ∷ Classed (codes "fields" ∷ []) (structure (field (sized 8) (codes "n") ∷ Fields (Integer (counts (codes "size") 32 ∷ counts (codes "align") 32 ∷ [])) (declarator (codes "s") (lengths.Path (codes "n" ∷ []) ∷ []) ∷ []) ∷ field (sized 8) (codes "z") ∷ [])) ∷ [])
    ∷ []

pub MQ_faults : told MQ ≡ []
MQ_faults = refl

pub MQ_class : class_of_text MQ ≡ Some (trace None None None (stream 0 None None None None (event None 0 (codes "q") None (made 32 3 5 (class.Structure (member (codes "n") (unsigned 8 8) ∷ member (codes "s") (made 32 2 2 (class.Array (counted (inside 0 (0 ∷ []))) (unsigned 32 32))) ∷ member (codes "z") (unsigned 8 8) ∷ []))) ∷ []) ∷ []))
MQ_class = refl

-- trace { major = 1; minor = 8; byte_order = le; }; event { name = "w"; fields := struct { integer { size = 3; signed =
-- true; } a; integer { size = 3; signed = true; base = 16; } b; integer { size = 2; } c; }; };
abbrev pub MW : List Declaration
MW =
    le_trace
    ∷ Block kind.Event (Assigned (quotes (codes "name") (codes "w")) ∷ Classed (codes "fields" ∷ []) (structure (field (Integer (counts (codes "size") 3 ∷ says (codes "signed") (codes "true") ∷ [])) (codes "a") ∷ field (Integer (counts (codes "size") 3 ∷ says (codes "signed") (codes "true") ∷ counts (codes "base") 16 ∷ [])) (codes "b") ∷ field (sized 2) (codes "c") ∷ [])) ∷ [])
    ∷ []

pub MW_faults : told MW ≡ []
MW_faults = refl

pub MW_class : class_of_text MW ≡ Some (trace None None None (stream 0 None None None None (event None 0 (codes "w") None (made 1 2 4 (class.Structure (member (codes "a") (made 1 1 1 (class.Integer (number 3 true base.Decimal Le false))) ∷ member (codes "b") (made 1 1 1 (class.Integer (number 3 true base.Hexadecimal Le false))) ∷ member (codes "c") (unsigned 2 1) ∷ []))) ∷ []) ∷ []))
MW_class = refl

-- trace { major = 1; minor = 8; byte_order = be; }; event { name = "v"; fields := struct { enum : integer { size = 8; }
-- { A = 1, B, LOW = 0 ... 2 } t; variant <t> { string A; integer { size = 8; base = 2; } B; } u; ..
abbrev pub MV : List Declaration
MV =
    be_trace
    ∷ Block kind.Event (Assigned (quotes (codes "name") (codes "v")) ∷ Classed (codes "fields" ∷ []) (structure (field (Enum None (Some (container.Integer (counts (codes "size") 8 ∷ []))) (single (codes "A") (plus 1) ∷ bare (codes "B") ∷ ranged (codes "LOW") (plus 0) (plus 2) ∷ [])) (codes "t") ∷ field (Variant None (Some (codes "t" ∷ [])) (items_from (field (String []) (codes "A") ∷ field (Integer (counts (codes "size") 8 ∷ counts (codes "base") 2 ∷ [])) (codes "B") ∷ []))) (codes "u") ∷ [])) ∷ [])
    ∷ []

pub MV_faults : told MV ≡ []
MV_faults = refl

pub MV_class : class_of_text MV ≡ Some (trace None None None (stream 0 None None None None (event None 0 (codes "v") None (made 8 3 5 (class.Structure (member (codes "t") (made 8 1 1 (class.Enumeration (number 8 false base.Decimal Be false) (covers (codes "A") (pos 1) (pos 1) ∷ covers (codes "B") (pos 2) (pos 2) ∷ covers (codes "LOW") (pos 0) (pos 2) ∷ []))) ∷ member (codes "u") (made 1 2 3 (class.Variant (inside 0 (0 ∷ [])) (choice (pos 1) (pos 1) 0 ∷ choice (pos 2) (pos 2) 1 ∷ []) (member (codes "A") (made 8 1 1 class.String) ∷ member (codes "B") (made 8 1 1 (class.Integer (number 8 false base.Binary Be false))) ∷ []))) ∷ []))) ∷ []) ∷ []))
MV_class = refl

-- trace { major = 1; minor = 8; byte_order = le; }; event { name = "z"; fields := struct { }; };
abbrev pub MZ : List Declaration
MZ =
    le_trace
    ∷ Block kind.Event (Assigned (quotes (codes "name") (codes "z")) ∷ Classed (codes "fields" ∷ []) (structure []) ∷ [])
    ∷ []

pub MZ_faults : told MZ ≡ []
MZ_faults = refl

pub MZ_class : class_of_text MZ ≡ Some (trace None None None (stream 0 None None None None (event None 0 (codes "z") None (made 1 1 1 (class.Structure [])) ∷ []) ∷ []))
MZ_class = refl

-- /* CTF 1.8 */ typealias integer { size = 8; align = 8; signed = false; } := uint8_t; typealias integer { size = 16;
-- align = 8; signed = false; } := uint16_t; typealias integer { size = 32; align = 8; signed = ..
abbrev pub ML : List Declaration
ML =
    Names (Alias (Integer (counts (codes "size") 8 ∷ counts (codes "align") 8 ∷ says (codes "signed") (codes "false") ∷ [])) (codes "uint8_t" ∷ []))
    ∷ Names (Alias (Integer (counts (codes "size") 16 ∷ counts (codes "align") 8 ∷ says (codes "signed") (codes "false") ∷ [])) (codes "uint16_t" ∷ []))
    ∷ Names (Alias (Integer (counts (codes "size") 32 ∷ counts (codes "align") 8 ∷ says (codes "signed") (codes "false") ∷ [])) (codes "uint32_t" ∷ []))
    ∷ Names (Alias (Integer (counts (codes "size") 64 ∷ counts (codes "align") 8 ∷ says (codes "signed") (codes "false") ∷ [])) (codes "uint64_t" ∷ []))
    ∷ Names (Alias (Integer (counts (codes "size") 64 ∷ counts (codes "align") 8 ∷ says (codes "signed") (codes "false") ∷ [])) (codes "unsigned" ∷ codes "long" ∷ []))
    ∷ Names (Alias (Integer (counts (codes "size") 5 ∷ counts (codes "align") 1 ∷ says (codes "signed") (codes "false") ∷ [])) (codes "uint5_t" ∷ []))
    ∷ Block kind.Trace (Assigned (counts (codes "major") 1) ∷ Assigned (counts (codes "minor") 8) ∷ Assigned (quotes (codes "uuid") (codes "2a6422d0-6cee-11e0-8c08-cb07d7b3a564")) ∷ Assigned (says (codes "byte_order") (codes "le")) ∷ Classed (codes "packet" ∷ codes "header" ∷ []) (structure (field (named (codes "uint32_t")) (codes "magic") ∷ Fields (named (codes "uint8_t")) (declarator (codes "uuid") (lengths.Constant 16 ∷ []) ∷ []) ∷ field (named (codes "uint32_t")) (codes "stream_id") ∷ field (named (codes "uint64_t")) (codes "stream_instance_id") ∷ [])) ∷ [])
    ∷ Table table.Env (quotes (codes "hostname") (codes "host1") ∷ quotes (codes "domain") (codes "kernel") ∷ counts (codes "tracer_major") 2 ∷ [])
    ∷ Table table.Clock (quotes (codes "name") (codes "monotonic") ∷ counts (codes "freq") 1000000000 ∷ counts (codes "offset") 1351530929945824323 ∷ [])
    ∷ Names (Alias (Integer (counts (codes "size") 27 ∷ counts (codes "align") 1 ∷ says (codes "signed") (codes "false") ∷ set (codes "map" ∷ []) (value.Name (codes "clock" ∷ codes "monotonic" ∷ codes "value" ∷ [])) ∷ [])) (codes "uint27_clock_monotonic_t" ∷ []))
    ∷ Names (Alias (Integer (counts (codes "size") 32 ∷ counts (codes "align") 8 ∷ says (codes "signed") (codes "false") ∷ set (codes "map" ∷ []) (value.Name (codes "clock" ∷ codes "monotonic" ∷ codes "value" ∷ [])) ∷ [])) (codes "uint32_clock_monotonic_t" ∷ []))
    ∷ Names (Alias (Integer (counts (codes "size") 64 ∷ counts (codes "align") 8 ∷ says (codes "signed") (codes "false") ∷ set (codes "map" ∷ []) (value.Name (codes "clock" ∷ codes "monotonic" ∷ codes "value" ∷ [])) ∷ [])) (codes "uint64_clock_monotonic_t" ∷ []))
    ∷ Names (Compound (Struct (Some (codes "packet_context")) (items_from (field (named (codes "uint64_clock_monotonic_t")) (codes "timestamp_begin") ∷ field (named (codes "uint64_clock_monotonic_t")) (codes "timestamp_end") ∷ field (named (codes "uint64_t")) (codes "content_size") ∷ field (named (codes "uint64_t")) (codes "packet_size") ∷ field (named (codes "uint64_t")) (codes "packet_seq_num") ∷ field (Named (name.Plain (codes "unsigned" ∷ codes "long" ∷ [])) None) (codes "events_discarded") ∷ field (named (codes "uint32_t")) (codes "cpu_id") ∷ [])) None))
    ∷ Names (Compound (Struct (Some (codes "event_header_compact")) (items_from (field (Enum None (Some (container_named (codes "uint5_t" ∷ []))) (ranged (codes "compact") (plus 0) (plus 30) ∷ single (codes "extended") (plus 31) ∷ [])) (codes "id") ∷ field (Variant None (Some (codes "id" ∷ [])) (items_from (field (structure (field (named (codes "uint27_clock_monotonic_t")) (codes "timestamp") ∷ [])) (codes "compact") ∷ field (structure (field (named (codes "uint32_t")) (codes "id") ∷ field (named (codes "uint64_clock_monotonic_t")) (codes "timestamp") ∷ [])) (codes "extended") ∷ []))) (codes "v") ∷ [])) (Some 8)))
    ∷ Names (Compound (Struct (Some (codes "event_header_large")) (items_from (field (Enum None (Some (container_named (codes "uint16_t" ∷ []))) (ranged (codes "compact") (plus 0) (plus 65534) ∷ single (codes "extended") (plus 65535) ∷ [])) (codes "id") ∷ field (Variant None (Some (codes "id" ∷ [])) (items_from (field (structure (field (named (codes "uint32_clock_monotonic_t")) (codes "timestamp") ∷ [])) (codes "compact") ∷ field (structure (field (named (codes "uint32_t")) (codes "id") ∷ field (named (codes "uint64_clock_monotonic_t")) (codes "timestamp") ∷ [])) (codes "extended") ∷ []))) (codes "v") ∷ [])) (Some 8)))
    ∷ Block kind.Stream (Assigned (counts (codes "id") 0) ∷ Classed (codes "event" ∷ codes "header" ∷ []) (Named (name.Struct (codes "event_header_compact")) None) ∷ Classed (codes "packet" ∷ codes "context" ∷ []) (Named (name.Struct (codes "packet_context")) None) ∷ [])
    ∷ Block kind.Event (Assigned (quotes (codes "name") (codes "sched_switch")) ∷ Assigned (counts (codes "id") 0) ∷ Assigned (counts (codes "stream_id") 0) ∷ Classed (codes "fields" ∷ []) (structure (Fields (Integer (counts (codes "size") 8 ∷ counts (codes "align") 8 ∷ counts (codes "signed") 1 ∷ says (codes "encoding") (codes "UTF8") ∷ counts (codes "base") 10 ∷ [])) (declarator (codes "_prev_comm") (lengths.Constant 16 ∷ []) ∷ []) ∷ Fields (Integer (counts (codes "size") 32 ∷ counts (codes "align") 8 ∷ counts (codes "signed") 1 ∷ says (codes "encoding") (codes "none") ∷ counts (codes "base") 10 ∷ [])) (declarator (codes "_prev_tid") [] ∷ declarator (codes "_prev_prio") [] ∷ []) ∷ field (Integer (counts (codes "size") 64 ∷ counts (codes "align") 8 ∷ counts (codes "signed") 1 ∷ says (codes "encoding") (codes "none") ∷ counts (codes "base") 10 ∷ [])) (codes "_prev_state") ∷ Fields (Integer (counts (codes "size") 8 ∷ counts (codes "align") 8 ∷ counts (codes "signed") 1 ∷ says (codes "encoding") (codes "UTF8") ∷ counts (codes "base") 10 ∷ [])) (declarator (codes "_next_comm") (lengths.Constant 16 ∷ []) ∷ []) ∷ Fields (Integer (counts (codes "size") 32 ∷ counts (codes "align") 8 ∷ counts (codes "signed") 1 ∷ says (codes "encoding") (codes "none") ∷ counts (codes "base") 10 ∷ [])) (declarator (codes "_next_tid") [] ∷ declarator (codes "_next_prio") [] ∷ []) ∷ [])) ∷ [])
    ∷ []

pub ML_faults : told ML ≡ []
unfolding by_index
ML_faults = refl

pub ML_class : class_of_text ML ≡ Some (trace (Some (42 ∷ 100 ∷ 34 ∷ 208 ∷ 108 ∷ 238 ∷ 17 ∷ 224 ∷ 140 ∷ 8 ∷ 203 ∷ 7 ∷ 215 ∷ 179 ∷ 165 ∷ 100 ∷ [])) (Some (codes "host1")) (Some (made 8 3 6 (class.Structure (member (codes "magic") (unsigned 32 8) ∷ member (codes "uuid") (made 8 2 2 (class.Array (fixed 16) (unsigned 8 8))) ∷ member (codes "stream_id") (unsigned 32 8) ∷ member (codes "stream_instance_id") (unsigned 64 8) ∷ [])))) (stream 0 (Some (made 8 2 8 (class.Structure (member (codes "timestamp_begin") (made 8 1 1 (class.Integer (number 64 false base.Decimal Le true))) ∷ member (codes "timestamp_end") (unsigned 64 8) ∷ member (codes "content_size") (unsigned 64 8) ∷ member (codes "packet_size") (unsigned 64 8) ∷ member (codes "packet_seq_num") (unsigned 64 8) ∷ member (codes "events_discarded") (unsigned 64 8) ∷ member (codes "cpu_id") (unsigned 32 8) ∷ [])))) (Some (made 8 4 8 (class.Structure (member (codes "id") (made 1 1 1 (class.Enumeration (number 5 false base.Decimal Le false) (covers (codes "compact") (pos 0) (pos 30) ∷ covers (codes "extended") (pos 31) (pos 31) ∷ []))) ∷ member (codes "v") (made 1 3 6 (class.Variant (inside 0 (0 ∷ [])) (choice (pos 0) (pos 30) 0 ∷ choice (pos 31) (pos 31) 1 ∷ []) (member (codes "compact") (made 1 2 2 (class.Structure (member (codes "timestamp") (made 1 1 1 (class.Integer (number 27 false base.Decimal Le true))) ∷ []))) ∷ member (codes "extended") (made 8 2 3 (class.Structure (member (codes "id") (unsigned 32 8) ∷ member (codes "timestamp") (made 8 1 1 (class.Integer (number 64 false base.Decimal Le true))) ∷ []))) ∷ []))) ∷ [])))) None (Some (clock (codes "monotonic") 1000000000 (pos 0) (pos 1351530929945824323))) (event (Some (codes "host1")) 0 (codes "sched_switch") None (made 8 3 10 (class.Structure (member (codes "_prev_comm") (made 8 2 2 (class.Text (fixed 16))) ∷ member (codes "_prev_tid") (made 8 1 1 (class.Integer (number 32 true base.Decimal Le false))) ∷ member (codes "_prev_prio") (made 8 1 1 (class.Integer (number 32 true base.Decimal Le false))) ∷ member (codes "_prev_state") (made 8 1 1 (class.Integer (number 64 true base.Decimal Le false))) ∷ member (codes "_next_comm") (made 8 2 2 (class.Text (fixed 16))) ∷ member (codes "_next_tid") (made 8 1 1 (class.Integer (number 32 true base.Decimal Le false))) ∷ member (codes "_next_prio") (made 8 1 1 (class.Integer (number 32 true base.Decimal Le false))) ∷ []))) ∷ []) ∷ []))
unfolding by_index
ML_class = refl
