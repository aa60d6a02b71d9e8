-- The fields of a packet's header and context that say something of the packet.
use Rattle.std.specs.Prelude.{ℕ, ◌&&◌, ◌||◌, not, ◌==◌, Bool, true, false, List, [], ◌∷◌, Option, Some, None, option_and_then, option_map, if◌then◌else◌, codes}
use Rattle.std.specs.Str.{bytes_eq}
use Rattle.ctf_class.specs.declared.route.Length.{Length}
use Rattle.ctf_class.specs.declared.route.Length.TheVariants as lengths
use Rattle.ctf_decode.specs.Values.{Val, Vals, no_vals, more_vals, unsigned}
use Rattle.ctf_decode.specs.Forms.{Form, Parts, integer, structure, array, no_parts, part}
use Rattle.ctf_decode.specs.Fields.{members_in, elements_in}
use Rattle.ctf_packet.specs.declared.field.UnsignedField.{UnsignedField}

-- the first member of a name
abbrev pub member_named : List ℕ → Parts → Vals → Option (Form × Val)
member_named name no_parts vs = None
member_named name (part n k ps) no_vals = None
member_named name (part n k ps) (more_vals v vs) =
    if bytes_eq n name then Some (k, v) else member_named name ps vs

abbrev pub member_of : List ℕ → Form → Val → Option (Form × Val)
member_of name (structure a ps) v = member_named name ps (members_in v)
member_of name _ v = None

-- a field at the top of a scope
abbrev pub field_at_top : List ℕ → Option Form → Option Val → Option (Form × Val)
field_at_top name (Some k) (Some v) = member_of name k v
field_at_top name (Some k) None = None
field_at_top name None v = None

-- an unsigned integer, with its width; a field of another class has no role (own)
abbrev pub unsigned_field : Form → Val → Option UnsignedField
unsigned_field (integer a i) (unsigned n) =
    if i.is_signed then None else Some (record { width = i.size; number = n })
unsigned_field _ _ = None

unfoldable pub role : List ℕ → Option Form → Option Val → Option UnsignedField
role name k v = option_and_then (λ f. unsigned_field f.0 f.1) (field_at_top name k v)

abbrev pub number_in : Option UnsignedField → Option ℕ
number_in field = option_map (λ (f : UnsignedField). f.number) field

-- a magic number of 32 bits is 0xC1FC1FC1 (CTF 1.8.3, section 5.1)
abbrev pub is_magic : Option UnsignedField → Bool
is_magic None = true
is_magic (Some field) = not (field.width == 32) || field.number == 0xC1FC1FC1

abbrev pub is_sixteen : Length → Bool
is_sixteen (lengths.Fixed n) = n == 16
is_sixteen (lengths.Field route) = false

abbrev pub is_octet : Form → Bool
is_octet (integer a i) = a == 8 && i.size == 8 && not i.is_signed
is_octet _ = false

abbrev pub octet : Val → ℕ
octet (unsigned n) = n
octet _ = 0

abbrev pub octets : Vals → List ℕ
octets no_vals = []
octets (more_vals v vs) = octet v ∷ octets vs

-- the bytes of an array of 16 unsigned integers of 8 bits, aligned on 8
abbrev pub sixteen_octets : Form → Val → Option (List ℕ)
sixteen_octets (array a many k) v =
    if is_sixteen many && is_octet k then Some (octets (elements_in v)) else None
sixteen_octets _ v = None

unfoldable pub uuid_field : Option Form → Option Val → Option (List ℕ)
uuid_field k v = option_and_then (λ f. sixteen_octets f.0 f.1) (field_at_top (codes "uuid") k v)

-- a packet's identifier is that of its trace, where both have one (CTF 1.8.3, section 5.1)
abbrev pub is_of_trace : Option (List ℕ) → Option (List ℕ) → Bool
is_of_trace (Some uuid) (Some field) = bytes_eq field uuid
is_of_trace (Some uuid) None = true
is_of_trace None field = true
