-- Which value is at a place.
use Rattle.std.specs.Prelude.{◌≡◌, ℕ, zero, suc, ◌+◌, ◌*◌, ◌/◌, ◌≤◌, not, List, [], ◌∷◌, ◌++◌, take, drop, nat_eq, position, Some}
use Rattle.std.specs.Int.{next_multiple_of}
use Rattle.std.specs.List.{take_while}
use Rattle.ctf_class.specs.Integers.{bits_of}
use Rattle.ctf_decode.specs.Values.{Val, text as text_val, group, list, choice, vals_of}
use Rattle.ctf_decode.specs.Forms.{Form, Parts, integer, enumeration, string, structure, variant, array, text, no_parts, part, align_of}
use Rattle.ctf_decode.specs.Input.{Input, Env, integer_at, label_at, bytes_from}
use Rattle.ctf_decode.specs.Routes.{length_of, option_at}

-- v is the value w, which ends at e within the content
pub record Leaf (c : Input) (e : ℕ) (w v : Val) (q : ℕ) : Type 0 where
  pub value : v ≡ w
  pub ends : q ≡ e
  pub within : e ≤ c.content

-- the bytes before the first zero byte, and the place after that byte (CTF 1.8.3, section 4.2.5)
pub record StandsString (c : Input) (b : ℕ) (v : Val) (q : ℕ) : Type 0 where
  pub n : ℕ
  pub first : position (λ x. nat_eq x 0) (bytes_from c b) ≡ Some n
  pub value : v ≡ text_val (take n (bytes_from c b))
  pub ends : q ≡ b + 8 * (n + 1)

-- the text of so many bytes: those before the first zero byte (own)
abbrev pub text_in : Input → ℕ → ℕ → Val
text_in c b n = text_val (take_while (λ x. not (nat_eq x 0)) (take n (drop (b / 8) c.packet)))

-- so many values are there one after another, after those that are done
abbrev pub StandsRow : (ℕ → Val → ℕ → Type 0) → ℕ → List Val → ℕ → List Val → ℕ → Type 0
StandsRow R zero done p vs q = (vs ≡ done) × (q ≡ p)
StandsRow R (suc n) done p vs q =
    (v : Val) × (m : ℕ) × R p v m × StandsRow R n (done ++ v ∷ []) m vs q

abbrev mutual
  -- the value v of a class is there from p to q. Integers, enumerations and structures begin at the next
  -- multiple of their alignment, arrays of their element's, also where they have no element; texts at a
  -- whole byte; a variant is its option (CTF 1.8.3, sections 4.1.2, 4.1.5, 4.1.8 and 4.2)
  pub Stands : Form → Input → Env → ℕ → Val → ℕ → Type 0
  Stands (integer a i) c env p v q =
      let b = next_multiple_of p a in Leaf c (b + bits_of i) (integer_at c i b) v q
  Stands (enumeration a i) c env p v q =
      let b = next_multiple_of p a in Leaf c (b + bits_of i) (label_at c i b) v q
  Stands (string a) c env p v q = StandsString c (next_multiple_of p 8) v q
  Stands (structure a ps) c env p v q =
      let b = next_multiple_of p a in
      (b ≤ c.content)
      × ((vs : List Val) × (v ≡ group (vals_of vs)) × StandsMembers ps c env [] b vs q)
  Stands (variant a tag choices ps) c env p v q =
      (i : ℕ) × (option_at tag choices c.earlier env ≡ Some i)
      × ((w : Val) × (v ≡ choice i w) × StandsOption ps i c env p w q)
  Stands (array a many k) c env p v q =
      let b = next_multiple_of p (align_of k) in
      (b ≤ c.content)
      × ((vs : List Val) × (v ≡ list (vals_of vs))
      × StandsRow (Stands k c env) (length_of many c.earlier env) [] b vs q)
  Stands (text a many) c env p v q =
      let b = next_multiple_of p 8 in
      let n = length_of many c.earlier env in Leaf c (b + 8 * n) (text_in c b n) v q

  -- the members that are left are after those that are done, each seeing those before it
  pub StandsMembers : Parts → Input → Env → List Val → ℕ → List Val → ℕ → Type 0
  StandsMembers no_parts c env done p vs q = (vs ≡ done) × (q ≡ p)
  StandsMembers (part n k ps) c env done p vs q =
      (v : Val) × (m : ℕ) × Stands k c (done ∷ env) p v m
      × StandsMembers ps c env (done ++ v ∷ []) m vs q

  -- the value of option i
  pub StandsOption : Parts → ℕ → Input → Env → ℕ → Val → ℕ → Type 0
  StandsOption no_parts i c env p v q = ⊥
  StandsOption (part n k ps) zero c env p v q = Stands k c env p v q
  StandsOption (part n k ps) (suc i) c env p v q = StandsOption ps i c env p v q
