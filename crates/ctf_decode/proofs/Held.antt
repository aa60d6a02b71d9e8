-- So many bits hold each number by which a value sets the clock.
use Rattle.std.proofs.Common.{ℕ, zero, suc, ℤ, pos, negsuc, ◌+◌, ◌-◌, ◌^◌, ◌<◌, ◌≤◌, Bool, true, false, nat_lt, if◌then◌else◌, List, [], ◌∷◌, ◌++◌, All, Option, Some, None, sym, subst, inl, inr, arith}
use Rattle.std.proofs.Math.Nat.{pow-le-pow_right}
use Rattle.std.proofs.Math.Pow.{pow-sub-lt}
use Rattle.std.proofs.lemmas.Bool.{cases_lt, lt-ltb, le-ltb}
use Rattle.std.proofs.lemmas.List.Elements.{All-append, All-cons, All-nil}
use Rattle.ctf_class.specs.declared.integer.Integer.{Integer}
use Rattle.ctf_decode.specs.Values.{Val, Vals, no_vals, more_vals, unsigned, signed, label, text as text_val, group, list, choice}
use Rattle.ctf_decode.specs.Forms.{Form, Parts, integer, enumeration, string, structure, variant, array, text, no_parts, part}
use Rattle.ctf_decode.specs.Fields.{members_in, elements_in, choice_in, of_choice, of_each, of_integers, of_members, of_option, unsigned_pair, bits_pair, signed_pair, moved, moved_in}

abbrev IsHeld : ℕ × ℕ → Type 0
IsHeld pair = pair.1 < 2 ^ pair.0

none : All IsHeld []
none = All-nil IsHeld

one : (n y : ℕ) → y < 2 ^ n → All IsHeld ((n, y) ∷ [])
one n y h = All-cons IsHeld (n, y) [] h none

if_below : (n x b y : ℕ) → (x < b → y < 2 ^ n) → All IsHeld (if nat_lt x b then (n, y) ∷ [] else [])
if_below n x b y h = elim (cases_lt x b) [ inl low ↦ yes low | inr high ↦ no high ]
  where
    Found : Bool → Type 0
    Found t = All IsHeld (if t then (n, y) ∷ [] else [])

    yes : x < b → Found (nat_lt x b)
    yes low = subst Found (sym (lt-ltb x b low)) (one n y (h low))

    no : b ≤ x → Found (nat_lt x b)
    no high = subst Found (sym (le-ltb x b high)) none

half : (n : ℕ) → 2 ^ (n - 1) ≤ 2 ^ n
half n = pow-le-pow_right {n = 2} (omega arith) {i = n - 1} {j = n} (omega arith)

unsigned_held : (n : ℕ) (v : Val) → All IsHeld (unsigned_pair n v)
unsigned_held n (unsigned x) = if_below n x (2 ^ n) x (λ low. low)
unsigned_held n (signed z) = none
unsigned_held n (label z) = none
unsigned_held n (text_val bytes) = none
unsigned_held n (group vs) = none
unsigned_held n (list vs) = none
unsigned_held n (choice i v) = none

bits_held : (n : ℕ) (z : ℤ) → All IsHeld (bits_pair n z)
bits_held n (pos x) = if_below n x (2 ^ (n - 1)) x (λ low. omega (arith, low, half n))
bits_held n (negsuc x) = if_below n x (2 ^ (n - 1)) (2 ^ n - suc x) (λ low. pow-sub-lt n (omega arith))

signed_held : (n : ℕ) (v : Val) → All IsHeld (signed_pair n v)
signed_held n (signed z) = bits_held n z
signed_held n (unsigned x) = none
signed_held n (label z) = none
signed_held n (text_val bytes) = none
signed_held n (group vs) = none
signed_held n (list vs) = none
signed_held n (choice i v) = none

integer_held : (i : Integer) (v : Val) → All IsHeld (moved_in i v)
integer_held i v = held i.is_moving i.is_signed
  where
    held : (moves sign : Bool) → All IsHeld (if moves then (if sign then signed_pair i.size v else unsigned_pair i.size v) else [])
    held false sign = none
    held true false = unsigned_held i.size v
    held true true = signed_held i.size v

chosen_held : (ps : Parts) → ((i : ℕ) (v : Val) → All IsHeld (of_option moved_in ps i v)) → (c : Option (ℕ × Val)) → All IsHeld (of_choice c (λ i w. of_option moved_in ps i w))
chosen_held ps held None = none
chosen_held ps held (Some c) = held c.0 c.1

each_held : (k : Form) → ((v : Val) → All IsHeld (moved k v)) → (vs : Vals) → All IsHeld (of_each (moved k) vs)
each_held k held no_vals = none
each_held k held (more_vals v vs) = All-append IsHeld (moved k v) (of_each (moved k) vs) (held v) (each_held k held vs)

mutual
  pub moved_held : (k : Form) (v : Val) → All IsHeld (moved k v)
  moved_held (integer a i) v = integer_held i v
  moved_held (enumeration a i) v = none
  moved_held (string a) v = none
  moved_held (structure a ps) v = members_held ps (members_in v)
  moved_held (variant a tag choices ps) v = chosen_held ps (λ i w. option_held ps i w) (choice_in v)
  moved_held (array a many k) v = each_held k (λ w. moved_held k w) (elements_in v)
  moved_held (text a many) v = none

  members_held : (ps : Parts) (vs : Vals) → All IsHeld (of_members moved_in ps vs)
  members_held no_parts vs = none
  members_held (part name k ps) no_vals = none
  members_held (part name k ps) (more_vals v vs) = All-append IsHeld (moved k v) (of_members moved_in ps vs) (moved_held k v) (members_held ps vs)

  option_held : (ps : Parts) (i : ℕ) (v : Val) → All IsHeld (of_option moved_in ps i v)
  option_held no_parts i v = none
  option_held (part name k ps) zero v = moved_held k v
  option_held (part name k ps) (suc i) v = option_held ps i v
