-- The numbers of a decoded value that give an event record's class and time.
use Rattle.std.specs.Prelude.{ℕ, zero, suc, ◌-◌, ◌^◌, ◌<◌, ◌≤◌, ℤ, pos, negsuc, List, [], ◌∷◌, ◌++◌, Option, Some, None, if◌then◌else◌, nat_lt, codes}
use Rattle.std.specs.Str.{bytes_eq}
use Rattle.ctf_class.specs.declared.integer.Integer.{Integer}
use Rattle.ctf_decode.specs.Values.{Val, Vals, no_vals, more_vals, unsigned, signed, label, group, list, choice}
use Rattle.ctf_decode.specs.Forms.{Form, Parts, integer, enumeration, structure, variant, array, no_parts, part}

-- the parts of a value; none of a value of another class
abbrev pub members_in : Val → Vals
members_in (group vs) = vs
members_in _ = no_vals

abbrev pub elements_in : Val → Vals
elements_in (list vs) = vs
elements_in _ = no_vals

abbrev pub choice_in : Val → Option (ℕ × Val)
choice_in (choice i v) = Some (i, v)
choice_in _ = None

-- the number of an integer or an enumeration
abbrev pub unsigned_in : Val → List ℤ
unsigned_in (unsigned n) = pos n ∷ []
unsigned_in _ = []

abbrev pub signed_in : Val → List ℤ
signed_in (signed z) = z ∷ []
signed_in _ = []

abbrev pub label_in : Val → List ℤ
label_in (label z) = z ∷ []
label_in _ = []

abbrev pub number_in : Form → Val → List ℤ
number_in (integer a i) v = if i.is_signed then signed_in v else unsigned_in v
number_in (enumeration a i) v = label_in v
number_in _ v = []

-- the number of a member that is named `id`
abbrev pub named_id : List ℕ → Form → Val → List ℤ
named_id name k v = if bytes_eq name (codes "id") then number_in k v else []

abbrev pub of_choice : {A : Type 0} → Option (ℕ × Val) → (ℕ → Val → List A) → List A
of_choice None f = []
of_choice (Some c) f = f c.0 c.1

abbrev pub of_each : {A : Type 0} → (Val → List A) → Vals → List A
of_each f no_vals = []
of_each f (more_vals v vs) = f v ++ of_each f vs

abbrev mutual
  -- the numbers of the structure members named `id`, at any depth, in the order of decoding (own)
  pub ids : Form → Val → List ℤ
  ids (structure a ps) v = member_ids ps (members_in v)
  ids (variant a tag choices ps) v = of_choice (choice_in v) (λ i w. option_ids ps i w)
  ids (array a many k) v = of_each (ids k) (elements_in v)
  ids _ v = []

  pub member_ids : Parts → Vals → List ℤ
  member_ids no_parts vs = []
  member_ids (part name k ps) no_vals = []
  member_ids (part name k ps) (more_vals v vs) = (named_id name k v ++ ids k v) ++ member_ids ps vs

  pub option_ids : Parts → ℕ → Val → List ℤ
  option_ids no_parts i v = []
  option_ids (part name k ps) zero v = ids k v
  option_ids (part name k ps) (suc i) v = option_ids ps i v

-- the width and the number of an unsigned integer; nothing where so many bits do not hold it
abbrev pub unsigned_pair : ℕ → Val → List (ℕ × ℕ)
unsigned_pair n (unsigned x) = if nat_lt x (2 ^ n) then (n, x) ∷ [] else []
unsigned_pair n _ = []

-- the width of a number in two's complement, and its bits as an unsigned number; nothing where so many bits
-- do not hold it (CTF 1.8.3, section 4.1.5)
abbrev pub bits_pair : ℕ → ℤ → List (ℕ × ℕ)
bits_pair n (pos x) = if nat_lt x (2 ^ (n - 1)) then (n, x) ∷ [] else []
bits_pair n (negsuc x) = if nat_lt x (2 ^ (n - 1)) then (n, 2 ^ n - suc x) ∷ [] else []

abbrev pub signed_pair : ℕ → Val → List (ℕ × ℕ)
signed_pair n (signed z) = bits_pair n z
signed_pair n _ = []

-- the width and the unsigned number of an integer that sets the clock
abbrev pub moved_in : Integer → Val → List (ℕ × ℕ)
moved_in i v =
    if i.is_moving then (if i.is_signed then signed_pair i.size v else unsigned_pair i.size v)
    else []

abbrev mutual
  -- what is said of each integer of a value, at any depth, in the order of decoding (own)
  pub of_integers : {A : Type 0} → (Integer → Val → List A) → Form → Val → List A
  of_integers f (integer a i) v = f i v
  of_integers f (structure a ps) v = of_members f ps (members_in v)
  of_integers f (variant a tag choices ps) v = of_choice (choice_in v) (λ i w. of_option f ps i w)
  of_integers f (array a many k) v = of_each (of_integers f k) (elements_in v)
  of_integers f _ v = []

  pub of_members : {A : Type 0} → (Integer → Val → List A) → Parts → Vals → List A
  of_members f no_parts vs = []
  of_members f (part name k ps) no_vals = []
  of_members f (part name k ps) (more_vals v vs) = of_integers f k v ++ of_members f ps vs

  pub of_option : {A : Type 0} → (Integer → Val → List A) → Parts → ℕ → Val → List A
  of_option f no_parts i v = []
  of_option f (part name k ps) zero v = of_integers f k v
  of_option f (part name k ps) (suc i) v = of_option f ps i v

-- the width and the unsigned number of each integer that sets the clock and is held by its width
abbrev pub moved : Form → Val → List (ℕ × ℕ)
moved = of_integers moved_in

abbrev pub member_moved : Parts → Vals → List (ℕ × ℕ)
member_moved = of_members moved_in

abbrev pub option_moved : Parts → ℕ → Val → List (ℕ × ℕ)
option_moved = of_option moved_in
