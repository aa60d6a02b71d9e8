-- Small rules that no other row shows.
use Rattle.std.specs.Prelude.{◌≡◌, true, false, List, [], ◌∷◌, Some, None, pos, codes, refl}
use Rattle.uuid.specs.Text.{by_index}
use Rattle.tsdl_tree.specs.declared.tree.BlockKind.TheVariants as kind
use Rattle.tsdl_tree.specs.declared.tree.TableKind.TheVariants as table
use Rattle.tsdl_tree.specs.declared.tree.Length.TheVariants as lengths
use Rattle.tsdl_tree.specs.declared.tree.Setting.{Setting}
use Rattle.tsdl_tree.specs.declared.tree.Value.TheVariants as value
use Rattle.ctf_bits.specs.declared.number.Order.TheVariants.{Le}
use Rattle.ctf_class.specs.declared.class.Kind.TheVariants as class
use Rattle.ctf_class.specs.declared.integer.Base.TheVariants as base
use Rattle.ctf_meaning.specs.declared.fault.ResolveFault.TheVariants.{UnknownType, Attribute, SizeOrAlignment}
use Rattle.ctf_meaning.specs.Written.{Declaration, Block, Table, Names, Assigned, Classed, Integer, Float, String, Fields, Alias, Variant, items_from}
use Rattle.ctf_meaning.specs.Denotes.{class_of_text}
use Rattle.meaning_tests.proofs.Writing.{le_trace, clock_named, event_with, denotes_fields, set, counts, says, quotes, minus, sized, structure, named, field, declarator, number, unsigned, fixed, made, member, clock, stream, trace, told}

-- trace { .. }; event { name = "n"; fields := struct { integer { size = 8; SETTING } a; }; };
abbrev with_setting : Setting → List Declaration
with_setting s = le_trace ∷ event_with (field (Integer (counts (codes "size") 8 ∷ s ∷ [])) (codes "a") ∷ []) ∷ []

-- event { name = "n"; fields := unknown; }: R1, and not R3 because it is no structure
pub fields_unknown_faults : told (le_trace ∷ Block kind.Event (Assigned (quotes (codes "name") (codes "n")) ∷ Classed (codes "fields" ∷ []) (named (codes "unknown")) ∷ []) ∷ []) ≡ UnknownType ∷ []
fields_unknown_faults = refl

-- signed = "true"; encoding = "UTF8"; byte_order = "be": quotes change nothing
pub sign_quoted_class : class_of_text (with_setting (quotes (codes "signed") (codes "true")))
    ≡ denotes_fields (made 8 2 2 (class.Structure (member (codes "a") (made 8 1 1 (class.Integer (number 8 true base.Decimal Le false))) ∷ [])))
sign_quoted_class = refl

pub sign_quoted_number_class : class_of_text (with_setting (quotes (codes "signed") (codes "1")))
    ≡ denotes_fields (made 8 2 2 (class.Structure (member (codes "a") (made 8 1 1 (class.Integer (number 8 true base.Decimal Le false))) ∷ [])))
sign_quoted_number_class = refl

pub encoding_quoted_class : class_of_text (le_trace ∷ event_with (Fields (Integer (counts (codes "size") 8 ∷ quotes (codes "encoding") (codes "UTF8") ∷ [])) (declarator (codes "a") (lengths.Constant 2 ∷ []) ∷ []) ∷ []) ∷ [])
    ≡ denotes_fields (made 8 3 3 (class.Structure (member (codes "a") (made 8 2 2 (class.Text (fixed 2))) ∷ [])))
encoding_quoted_class = refl

-- An encoding on integers that are no characters has no effect: size 16; align 16; align 4.
pub encoding_without_effect_class : class_of_text (le_trace ∷ event_with (Fields (Integer (counts (codes "size") 16 ∷ says (codes "encoding") (codes "UTF8") ∷ [])) (declarator (codes "a") (lengths.Constant 2 ∷ []) ∷ []) ∷ []) ∷ [])
    ≡ denotes_fields (made 8 3 3 (class.Structure (member (codes "a") (made 8 2 2 (class.Array (fixed 2) (unsigned 16 8))) ∷ [])))
encoding_without_effect_class = refl

pub encoding_aligned_class : class_of_text (le_trace ∷ event_with (Fields (Integer (counts (codes "size") 8 ∷ counts (codes "align") 16 ∷ says (codes "encoding") (codes "UTF8") ∷ [])) (declarator (codes "a") (lengths.Constant 2 ∷ []) ∷ []) ∷ []) ∷ [])
    ≡ denotes_fields (made 16 3 3 (class.Structure (member (codes "a") (made 16 2 2 (class.Array (fixed 2) (unsigned 8 16))) ∷ [])))
encoding_aligned_class = refl

-- align = -8: R5
pub align_minus_faults : told (with_setting (set (codes "align" ∷ []) (value.Number (minus 8)))) ≡ SizeOrAlignment ∷ []
align_minus_faults = refl

-- A setting of a float means nothing, also twice: typealias floating_point { exp_dig = 8; exp_dig = 8; } := f;
pub float_twice_faults : told (Names (Alias (Float (counts (codes "exp_dig") 8 ∷ counts (codes "exp_dig") 8 ∷ [])) (codes "f" ∷ [])) ∷ le_trace ∷ []) ≡ []
float_twice_faults = refl

-- So may a clock's description and precision.
pub clock_ignored_twice_faults : told (le_trace ∷ Table table.Clock (quotes (codes "name") (codes "c") ∷ quotes (codes "description") (codes "a") ∷ quotes (codes "description") (codes "b") ∷ counts (codes "precision") 1 ∷ counts (codes "precision") 2 ∷ []) ∷ []) ≡ []
clock_ignored_twice_faults = refl

-- freq = "1"; offset_s = "1": R3
pub clock_freq_quoted_faults : told (le_trace ∷ Table table.Clock (quotes (codes "name") (codes "c") ∷ quotes (codes "freq") (codes "1") ∷ []) ∷ []) ≡ Attribute ∷ []
clock_freq_quoted_faults = refl

pub clock_seconds_quoted_faults : told (le_trace ∷ Table table.Clock (quotes (codes "name") (codes "c") ∷ quotes (codes "offset_s") (codes "1") ∷ []) ∷ []) ≡ Attribute ∷ []
clock_seconds_quoted_faults = refl

-- The name of a clock may be empty: it is declared, and the only one.
pub clock_empty_name_class : class_of_text (le_trace ∷ clock_named (codes "") ∷ Block kind.Stream (Classed (codes "event" ∷ codes "header" ∷ []) (structure (field (sized 8) (codes "timestamp") ∷ [])) ∷ []) ∷ [])
    ≡ Some (trace None None None (stream 0 None (Some (made 8 2 2 (class.Structure (member (codes "timestamp") (made 8 1 1 (class.Integer (number 8 false base.Decimal Le true))) ∷ [])))) None (Some (clock (codes "") 1000000000 (pos 0) (pos 0))) [] ∷ []))
clock_empty_name_class = refl

-- event { name = "n"; id = "1"; }, and stream_id = "0": R3
pub event_id_quoted_faults : told (le_trace ∷ Block kind.Event (Assigned (quotes (codes "name") (codes "n")) ∷ Assigned (quotes (codes "id") (codes "1")) ∷ []) ∷ []) ≡ Attribute ∷ []
event_id_quoted_faults = refl

pub event_stream_id_quoted_faults : told (le_trace ∷ Block kind.Event (Assigned (quotes (codes "name") (codes "n")) ∷ Assigned (quotes (codes "stream_id") (codes "0")) ∷ []) ∷ []) ≡ Attribute ∷ []
event_stream_id_quoted_faults = refl

-- A class under a name that means nothing: its own faults count, its lengths, tags and mappings do not.
pub ignored_class_sign_faults : told (le_trace ∷ Block kind.Event (Assigned (quotes (codes "name") (codes "n")) ∷ Classed (codes "x" ∷ []) (Integer (counts (codes "size") 8 ∷ says (codes "signed") (codes "maybe") ∷ [])) ∷ []) ∷ []) ≡ Attribute ∷ []
ignored_class_sign_faults = refl

pub ignored_class_links_faults : told (le_trace ∷ Block kind.Event (Assigned (quotes (codes "name") (codes "n")) ∷ Classed (codes "x" ∷ []) (structure (
    field (Variant None None (items_from (field (String []) (codes "a") ∷ []))) (codes "v")
    ∷ Fields (String []) (declarator (codes "s") (lengths.Path (codes "nowhere" ∷ []) ∷ []) ∷ [])
    ∷ field (Integer (counts (codes "size") 8 ∷ set (codes "map" ∷ []) (value.Name (codes "clock" ∷ codes "q" ∷ codes "value" ∷ [])) ∷ [])) (codes "i") ∷ [])) ∷ []) ∷ []) ≡ []
ignored_class_links_faults = refl

-- A length to nowhere in a class that is in no scope: typealias struct { string s[nowhere]; } := t;
pub length_unused_faults : told (Names (Alias (structure (Fields (String []) (declarator (codes "s") (lengths.Path (codes "nowhere" ∷ []) ∷ []) ∷ []) ∷ [])) (codes "t" ∷ [])) ∷ le_trace ∷ []) ≡ []
length_unused_faults = refl

-- uuid = a2a6422d06cee11e08c08cb07d7b3a56, without quotes
pub uuid_word_faults : told (Block kind.Trace (Assigned (counts (codes "major") 1) ∷ Assigned (counts (codes "minor") 8) ∷ Assigned (says (codes "byte_order") (codes "le")) ∷ Assigned (says (codes "uuid") (codes "a2a6422d06cee11e08c08cb07d7b3a56")) ∷ []) ∷ []) ≡ []
unfolding by_index
uuid_word_faults = refl

pub uuid_word_class : class_of_text (Block kind.Trace (Assigned (counts (codes "major") 1) ∷ Assigned (counts (codes "minor") 8) ∷ Assigned (says (codes "byte_order") (codes "le")) ∷ Assigned (says (codes "uuid") (codes "a2a6422d06cee11e08c08cb07d7b3a56")) ∷ []) ∷ [])
    ≡ Some (trace (Some (0xA2 ∷ 0xA6 ∷ 0x42 ∷ 0x2D ∷ 0x06 ∷ 0xCE ∷ 0xE1 ∷ 0x1E ∷ 0x08 ∷ 0xC0 ∷ 0x8C ∷ 0xB0 ∷ 0x7D ∷ 0x7B ∷ 0x3A ∷ 0x56 ∷ [])) None None (stream 0 None None None None [] ∷ []))
unfolding by_index
uuid_word_class = refl

-- uuid = "2a6422d0": no uuid, R3
pub uuid_short_faults : told (Block kind.Trace (Assigned (counts (codes "major") 1) ∷ Assigned (counts (codes "minor") 8) ∷ Assigned (says (codes "byte_order") (codes "le")) ∷ Assigned (quotes (codes "uuid") (codes "2a6422d0")) ∷ []) ∷ []) ≡ Attribute ∷ []
unfolding by_index
uuid_short_faults = refl

-- The own faults of a declaration do not see those after it: of a fault in each of two events the first is reported.
-- event { fields := struct { integer { size = 0; } a; }; }; event { name = "n"; fields := unknown; };
pub earlier_own_fault_faults : told (le_trace ∷ event_with (field (sized 0) (codes "a") ∷ []) ∷ Block kind.Event (Assigned (quotes (codes "name") (codes "m")) ∷ Classed (codes "fields" ∷ []) (named (codes "unknown")) ∷ []) ∷ []) ≡ SizeOrAlignment ∷ []
earlier_own_fault_faults = refl

-- A name that a later declaration gives is not seen, though an event there is of the same text.
pub own_reads_earlier_faults : told (le_trace ∷ event_with (field (named (codes "t")) (codes "a") ∷ []) ∷ Names (Alias (sized 0) (codes "t" ∷ [])) ∷ []) ≡ UnknownType ∷ []
own_reads_earlier_faults = refl

-- base = "10", "8", "2": the numbers count in quotes too
pub base_ten_quoted_faults : told (with_setting (quotes (codes "base") (codes "10"))) ≡ []
base_ten_quoted_faults = refl

pub base_eight_quoted_class : class_of_text (with_setting (quotes (codes "base") (codes "8")))
    ≡ denotes_fields (made 8 2 2 (class.Structure (member (codes "a") (made 8 1 1 (class.Integer (number 8 false base.Octal Le false))) ∷ [])))
base_eight_quoted_class = refl

pub base_two_quoted_class : class_of_text (with_setting (quotes (codes "base") (codes "2")))
    ≡ denotes_fields (made 8 2 2 (class.Structure (member (codes "a") (made 8 1 1 (class.Integer (number 8 false base.Binary Le false))) ∷ [])))
base_two_quoted_class = refl

-- base = "10" is decimal
pub base_ten_quoted_class : class_of_text (with_setting (quotes (codes "base") (codes "10"))) ≡ denotes_fields (made 8 2 2 (class.Structure (member (codes "a") (unsigned 8 8) ∷ [])))
base_ten_quoted_class = refl
