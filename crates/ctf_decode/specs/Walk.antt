-- Decoding as a function on lists: the value at a place, or the first fault.
use Rattle.std.specs.Prelude.{ℕ, zero, suc, ◌+◌, ◌*◌, List, [], ◌∷◌, ◌++◌, length, take, position, nat_eq, nat_lt, if◌then◌else◌, Option, Some, None, Result, Ok, Err}
use Rattle.std.specs.Int.{next_multiple_of}
use Rattle.ctf_class.specs.Integers.{bits_of}
use Rattle.ctf_decode.specs.Values.{Val, text as text_val, group, list, choice, vals_of}
use Rattle.ctf_decode.specs.Forms.{Form, Parts, integer, enumeration, string, structure, variant, array, text, no_parts, part, align_of}
use Rattle.ctf_decode.specs.Input.{Input, Env, integer_at, label_at, bytes_from}
use Rattle.ctf_decode.specs.Routes.{length_of, option_at}
use Rattle.ctf_decode.specs.Stands.{text_in}
use Rattle.ctf_decode.specs.Breaks.{Fault, too_many, past, no_option}

-- what was read, where it ends, and how many values were begun so far
abbrev pub Step : Type 0 → Type 0
Step A = Result (A × ℕ × ℕ) Fault

abbrev pub and_then : {A B : Type 0} → Step A → (A → ℕ → ℕ → Step B) → Step B
and_then (Ok x) f = f x.0 x.1 x.2
and_then (Err e) f = Err e

-- a value begins
abbrev pub begin : {A : Type 0} → Input → ℕ → Step A → Step A
begin c s r = if nat_lt s c.limit then r else Err too_many

-- a composite begins within the content
abbrev pub open_at : {A : Type 0} → Input → ℕ → Step A → Step A
open_at c b r = if nat_lt c.content b then Err (past b) else r

-- a leaf ends within the content
abbrev pub leaf : Input → ℕ → ℕ → Val → Step Val
leaf c e s v = if nat_lt c.content e then Err (past e) else Ok (v, e, s + 1)

-- the bytes before the first zero
abbrev pub string_end : ℕ → ℕ → List ℕ → Option ℕ → Step Val
string_end b s bytes None = Err (past (b + 8 * (length bytes + 1)))
string_end b s bytes (Some n) = Ok (text_val (take n bytes), b + 8 * (n + 1), s + 1)

unfoldable pub string_at : Input → ℕ → ℕ → Step Val
string_at c b s = string_end b s (bytes_from c b) (position (λ x. nat_eq x 0) (bytes_from c b))

-- so many values, one after another, after those that are done
abbrev pub repeat : (ℕ → ℕ → Step Val) → ℕ → List Val → ℕ → ℕ → Step (List Val)
repeat f zero done p s = Ok (done, p, s)
repeat f (suc n) done p s = and_then (f p s) (λ v q t. repeat f n (done ++ v ∷ []) q t)

abbrev pub with_option : Option ℕ → (ℕ → Step Val) → Step Val
with_option None f = Err no_option
with_option (Some i) f = f i

abbrev pub as_group : List Val → ℕ → ℕ → Step Val
as_group vs q t = Ok (group (vals_of vs), q, t)

abbrev pub as_list : List Val → ℕ → ℕ → Step Val
as_list vs q t = Ok (list (vals_of vs), q, t)

abbrev pub as_choice : ℕ → Val → ℕ → ℕ → Step Val
as_choice i v q t = Ok (choice i v, q, t)

abbrev mutual
  pub walk : Form → Input → Env → ℕ → ℕ → Step Val
  walk (integer a i) c env p s =
      let b = next_multiple_of p a in begin c s (leaf c (b + bits_of i) s (integer_at c i b))
  walk (enumeration a i) c env p s =
      let b = next_multiple_of p a in begin c s (leaf c (b + bits_of i) s (label_at c i b))
  walk (string a) c env p s = begin c s (string_at c (next_multiple_of p 8) s)
  walk (structure a ps) c env p s =
      let b = next_multiple_of p a in
      begin c s (open_at c b (and_then (walk_members ps c env [] b (s + 1)) as_group))
  walk (variant a tag choices ps) c env p s =
      begin c s
      (with_option (option_at tag choices c.earlier env) (λ i.
      and_then (walk_option ps i c env p (s + 1)) (as_choice i)))
  walk (array a many k) c env p s =
      let b = next_multiple_of p (align_of k) in
      begin c s
      (open_at c b
      (and_then (repeat (walk k c env) (length_of many c.earlier env) [] b (s + 1))
      as_list))
  walk (text a many) c env p s =
      let b = next_multiple_of p 8 in
      let n = length_of many c.earlier env in begin c s (leaf c (b + 8 * n) s (text_in c b n))

  -- the members that are left, after those that are done
  pub walk_members : Parts → Input → Env → List Val → ℕ → ℕ → Step (List Val)
  walk_members no_parts c env done p s = Ok (done, p, s)
  walk_members (part n k ps) c env done p s =
      and_then (walk k c (done ∷ env) p s) (λ v q t. walk_members ps c env (done ++ v ∷ []) q t)

  pub walk_option : Parts → ℕ → Input → Env → ℕ → ℕ → Step Val
  walk_option no_parts i c env p s = Err no_option
  walk_option (part n k ps) zero c env p s = walk k c env p s
  walk_option (part n k ps) (suc i) c env p s = walk_option ps i c env p s
