-- Integers by their attributes. (CTF 1.8.3, section 4.1.5.)
use Rattle.std.specs.Prelude.{ℕ, ◌%◌, ◌^◌, nat_eq, nat_le, Bool, true, false, not, ◌&&◌, ◌||◌, if◌then◌else◌, List, [], ◌∷◌, ◌++◌, reverse, Option, Some, None, option_map, option_and_then, is_none, codes, ℤ, pos, ◌==◌, flat_map}
use Rattle.std.specs.List.{list_any, range_with_len}
use Rattle.std.specs.Option.{option_map_or}
use Rattle.tsdl_tree.specs.declared.tree.Setting.{Setting}
use Rattle.tsdl_tree.specs.declared.tree.Value.{Value}
use Rattle.ctf_bits.specs.declared.number.Order.{Order}
use Rattle.ctf_class.specs.declared.integer.Base.{Base}
use Rattle.ctf_class.specs.declared.integer.Base.TheVariants.{Binary, Octal, Decimal, Hexadecimal}
use Rattle.ctf_meaning.specs.declared.fault.ResolveFault.{ResolveFault}
use Rattle.ctf_meaning.specs.declared.fault.ResolveFault.TheVariants.{Attribute, SizeOrAlignment}
use Rattle.ctf_meaning.specs.declared.integer.DeclaredInteger.{DeclaredInteger}
use Rattle.ctf_meaning.specs.Name.{Word}
use Rattle.ctf_meaning.specs.Settings.{when, one, attribute, says, is_count, number_of, count_of, text_of, trace_order_of, is_text_of, known_as, wrong, repeated}

-- signed: true TRUE 1 or false FALSE 0
abbrev pub sign_of : Value → Option Bool
sign_of value =
    if says value (codes "true" ∷ codes "TRUE" ∷ codes "1" ∷ []) || is_count 1 value then Some true
    else (if says value (codes "false" ∷ codes "FALSE" ∷ codes "0" ∷ []) || is_count 0 value
    then Some false
    else None)

-- byte_order: as a trace's, or native, which is None in the inner place
abbrev pub order_of : Value → Option (Option Order)
order_of value =
    if says value (codes "native" ∷ []) then Some None
    else option_map (λ order. Some order) (trace_order_of value)

-- base: 10 decimal dec d i u, 16 hexadecimal hex x X p, 8 octal oct o, 2 binary b
abbrev pub base_of : Value → Option Base
base_of value =
    if says value
    (codes "10" ∷ codes "decimal" ∷ codes "dec" ∷ codes "d" ∷ codes "i" ∷ codes "u" ∷ [])
    || is_count 10 value
    then Some Decimal
    else (if says value
    (codes "16" ∷ codes "hexadecimal" ∷ codes "hex" ∷ codes "x" ∷ codes "X" ∷ codes "p" ∷ [])
    || is_count 16 value
    then Some Hexadecimal
    else (if says value (codes "8" ∷ codes "octal" ∷ codes "oct" ∷ codes "o" ∷ [])
    || is_count 8 value
    then Some Octal
    else (if says value (codes "2" ∷ codes "binary" ∷ codes "b" ∷ []) || is_count 2 value
    then Some Binary
    else None)))

-- what is after a beginning
abbrev pub after : Word → Word → Option Word
after [] text = Some text
after (b ∷ bs) [] = None
after (b ∷ bs) (c ∷ cs) = if nat_eq b c then after bs cs else None

-- `clock.NAME.value`, where the name may hold dots (own); section 8
abbrev pub clock_in : Word → Option Word
clock_in text =
    option_map reverse
    (option_and_then (after (reverse (codes ".value")))
    (option_map reverse (after (codes "clock.") text)))

-- map: the clock that its text names
abbrev pub clock_of : Value → Option Word
clock_of value = option_and_then clock_in (text_of value)

abbrev pub size_of : List Setting → ℕ
size_of settings = known_as count_of 0 (attribute settings (one (codes "size")))

-- Defaults: unsigned, base 10, native byte order, no encoding, and align 8 where the size is a multiple of 8, else 1.
abbrev pub integer_of : List Setting → DeclaredInteger
integer_of settings = record {
  size = size_of settings;
  align =
      known_as count_of (if size_of settings % 8 == 0 then 8 else 1)
      (attribute settings (one (codes "align")));
  is_signed = known_as sign_of false (attribute settings (one (codes "signed")));
  base = known_as base_of Decimal (attribute settings (one (codes "base")));
  order = known_as order_of None (attribute settings (one (codes "byte_order")));
  is_text = known_as is_text_of false (attribute settings (one (codes "encoding")));
  clock = option_and_then clock_of (attribute settings (one (codes "map")));
}

-- A size is from 1 to 64. (The bound is own.)
abbrev pub is_size : ℤ → Bool
is_size (pos n) = nat_le 1 n && nat_le n 64
is_size _ = false

-- An alignment is a power of two from 1 to 2^31. (4.1.2; the bound is own.)
abbrev pub is_alignment : ℕ → Bool
is_alignment n = list_any (λ k. nat_eq n (2 ^ k)) (range_with_len 0 32)

abbrev pub is_alignment_number : ℤ → Bool
is_alignment_number (pos n) = is_alignment n
is_alignment_number _ = false

-- a number that is there and out of its range: R5 (one that is no number is R3)
abbrev pub outside : (ℤ → Bool) → Option Value → List ResolveFault
outside fits value =
    option_map_or (λ n. when (not (fits n)) SizeOrAlignment) (option_and_then number_of value) []

-- the attributes of an integer with a meaning
abbrev pub integer_words : List Word
integer_words =
    codes "size" ∷ codes "align" ∷ codes "signed" ∷ codes "base" ∷ codes "byte_order"
    ∷ codes "encoding" ∷ codes "map" ∷ []

-- What is wrong with the settings of an integer: a size is required.
abbrev pub integer_faults : List Setting → List ResolveFault
integer_faults settings =
    flat_map (repeated settings) integer_words
    ++ when (is_none (attribute settings (one (codes "size")))) Attribute
    ++ wrong number_of (attribute settings (one (codes "size")))
    ++ outside is_size (attribute settings (one (codes "size")))
    ++ wrong number_of (attribute settings (one (codes "align")))
    ++ outside is_alignment_number (attribute settings (one (codes "align")))
    ++ wrong sign_of (attribute settings (one (codes "signed")))
    ++ wrong base_of (attribute settings (one (codes "base")))
    ++ wrong order_of (attribute settings (one (codes "byte_order")))
    ++ wrong is_text_of (attribute settings (one (codes "encoding")))
    ++ wrong clock_of (attribute settings (one (codes "map")))

abbrev pub is_none_wrong : List ResolveFault → Bool
is_none_wrong [] = true
is_none_wrong (fault ∷ faults) = false

-- the integer of these settings, where nothing is wrong with them
abbrev pub good_integer : List Setting → Option DeclaredInteger
good_integer settings =
    if is_none_wrong (integer_faults settings) then Some (integer_of settings) else None
