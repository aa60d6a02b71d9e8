-- The values of settings, `name = value;`. (CTF 1.8.3, section 7.4 and appendix C.2.)
use Rattle.std.specs.Prelude.{ℕ, ◌^◌, nat_eq, nat_lt, Bool, true, false, if◌then◌else◌, List, [], ◌∷◌, ◌++◌, length, Option, Some, None, option_map, option_and_then, unwrap_or, is_none, codes, find, ℤ, pos, neg_ℤ, filter}
use Rattle.std.specs.List.{list_any, join_with_byte}
use Rattle.std.specs.Option.{option_map_or}
use Rattle.tsdl_tree.specs.declared.tree.Setting.{Setting}
use Rattle.tsdl_tree.specs.declared.tree.Number.{Number as Constant}
use Rattle.tsdl_tree.specs.declared.tree.Value.{Value}
use Rattle.tsdl_tree.specs.declared.tree.Value.TheVariants.{Number, Text, Name}
use Rattle.ctf_bits.specs.declared.number.Order.{Order}
use Rattle.ctf_bits.specs.declared.number.Order.TheVariants.{Le, Be}
use Rattle.ctf_meaning.specs.declared.fault.ResolveFault.{ResolveFault}
use Rattle.ctf_meaning.specs.declared.fault.ResolveFault.TheVariants.{Attribute}
use Rattle.ctf_meaning.specs.Name.{Word, Words, same_word, same_words}

-- Faults are a list, since a declaration can have several, of which any one is reported (own).
abbrev pub when : Bool → ResolveFault → List ResolveFault
when true fault = fault ∷ []
when false fault = []

abbrev pub one : Word → Words
one word = word ∷ []

-- A `-` before a constant above 2^63 makes no number (own).
abbrev pub number_by : Constant → Option ℤ
number_by n =
    if n.is_negative then
    (if nat_lt (2 ^ 63) n.magnitude then None else Some (neg_ℤ (pos n.magnitude)))
    else Some (pos n.magnitude)

-- A string is no number (own).
abbrev pub number_of : Value → Option ℤ
number_of (Number n) = number_by n
number_of _ = None

abbrev pub from_zero : ℤ → Option ℕ
from_zero (pos n) = Some n
from_zero _ = None

-- a number from 0 on
abbrev pub count_of : Value → Option ℕ
count_of value = option_and_then from_zero (number_of value)

-- A name reads the same with quotes and without, its dots included (own).
abbrev pub text_of : Value → Option Word
text_of (Number n) = None
text_of (Text bytes) = Some bytes
text_of (Name words) = Some (join_with_byte 46 words)

-- the value of the first setting of this name
abbrev pub attribute : List Setting → Words → Option Value
attribute settings name = option_map (λ s. s.value) (find (λ s. same_words s.name name) settings)

-- A word counts the same with quotes and without (own).
abbrev pub says : Value → List Word → Bool
says value words = option_map_or (λ text. list_any (same_word text) words) (text_of value) false

-- A constant counts by its value (own).
abbrev pub is_count : ℕ → Value → Bool
is_count n value = option_map_or (nat_eq n) (count_of value) false

-- the byte order of a trace: le, be, or network, which is be (4.1.3; `native` would mean itself)
abbrev pub trace_order_of : Value → Option Order
trace_order_of value =
    if says value (codes "le" ∷ []) then Some Le
    else (if says value (codes "be" ∷ codes "network" ∷ []) then Some Be else None)

-- the encoding of an integer or a string, and whether it is one of characters (4.1.5, 4.2.5)
abbrev pub is_text_of : Value → Option Bool
is_text_of value =
    if says value (codes "UTF8" ∷ codes "utf8" ∷ codes "ASCII" ∷ codes "ascii" ∷ []) then Some true
    else (if says value (codes "none" ∷ codes "NONE" ∷ []) then Some false else None)

-- what a setting's value is, or a default where the setting is missing or can't be read
abbrev pub known_as : {A : Type 0} → (Value → Option A) → A → Option Value → A
known_as read default value = unwrap_or (option_and_then read value) default

-- a setting that is there and can't be read: R3
abbrev pub wrong : {A : Type 0} → (Value → Option A) → Option Value → List ResolveFault
wrong read value = option_map_or (λ v. when (is_none (read v)) Attribute) value []

-- two settings of one name with a meaning: R3 (own)
abbrev pub repeated : List Setting → Word → List ResolveFault
repeated settings word =
    when (nat_lt 1 (length (filter (λ s. same_words s.name (one word)) settings))) Attribute

-- A `-` before a constant above 2^63 is R3, also in a setting with no meaning (own).
abbrev pub has_no_number : Value → Bool
has_no_number (Number n) = is_none (number_by n)
has_no_number _ = false

abbrev pub minus_faults : List Setting → List ResolveFault
minus_faults settings = when (list_any (λ s. has_no_number s.value) settings) Attribute

-- What is wrong with the settings of a string: its encoding alone has a meaning. (4.2.5.)
abbrev pub string_faults : List Setting → List ResolveFault
string_faults settings =
    repeated settings (codes "encoding")
    ++ wrong is_text_of (attribute settings (one (codes "encoding")))
