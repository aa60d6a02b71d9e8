-- Where no value is: the fault, and the place that a value would need.
use Rattle.std.specs.Prelude.{◌≡◌, ℕ, zero, suc, ◌+◌, ◌*◌, ◌<◌, ◌≤◌, List, [], ◌∷◌, ◌++◌, length, nat_eq, position, Option, Some, None, ◌⊎◌}
use Rattle.std.specs.Int.{next_multiple_of}
use Rattle.ctf_class.specs.Integers.{bits_of}
use Rattle.ctf_decode.specs.Values.{Val, count}
use Rattle.ctf_decode.specs.Forms.{Form, Parts, integer, enumeration, string, structure, variant, array, text, no_parts, part, align_of}
use Rattle.ctf_decode.specs.Input.{Input, Env, bytes_from}
use Rattle.ctf_decode.specs.Routes.{length_of, option_at}
use Rattle.ctf_decode.specs.Stands.{Stands}

-- too many values; the content ends before a place; the tag names no option (own)
pub data Fault : Type 0 where
  too_many : Fault
  past : ℕ → Fault
  no_option : Fault

-- a value begins where s values were begun before: too many, or what is wrong is another thing
abbrev pub Begins : Input → ℕ → Fault → Type 0 → Type 0
Begins c s f T = ((c.limit ≤ s) × (f ≡ too_many)) ⊎ ((s < c.limit) × T)

-- a composite begins past the content, or begins within it and breaks further on
abbrev pub Opens : Input → ℕ → Fault → Type 0 → Type 0
Opens c b f T = ((c.content < b) × (f ≡ past b)) ⊎ ((b ≤ c.content) × T)

-- a leaf would end at e, past the content
abbrev pub BreaksLeaf : Input → ℕ → Fault → Type 0
BreaksLeaf c e f = (c.content < e) × (f ≡ past e)

-- no zero byte up to the content's end: the next byte is needed
abbrev pub BreaksString : Input → ℕ → Fault → Type 0
BreaksString c b f =
    (position (λ x. nat_eq x 0) (bytes_from c b) ≡ None)
    × (f ≡ past (b + 8 * (length (bytes_from c b) + 1)))

-- one of so many values breaks, and those before it are there
abbrev pub BreaksRow : Input → (ℕ → Val → ℕ → Type 0) → (ℕ → ℕ → Fault → Type 0) → ℕ → ℕ → ℕ → Fault
    → Type 0
BreaksRow c R B zero p s f = ⊥
BreaksRow c R B (suc n) p s f =
    B p s f
    ⊎ ((v : Val) × (m : ℕ) × R p v m × (s + count v ≤ c.limit)
    × BreaksRow c R B n m (s + count v) f)

-- the option that is named breaks, or none is named
abbrev pub IsOption : Option ℕ → Fault → (ℕ → Type 0) → Type 0
IsOption None f T = f ≡ no_option
IsOption (Some i) f T = T i

abbrev mutual
  -- the fault f is that of the first value, in the order in which they begin, that is not there, where s
  -- values were begun before p (own)
  pub Breaks : Form → Input → Env → ℕ → ℕ → Fault → Type 0
  Breaks (integer a i) c env p s f =
      Begins c s f (BreaksLeaf c (next_multiple_of p a + bits_of i) f)
  Breaks (enumeration a i) c env p s f =
      Begins c s f (BreaksLeaf c (next_multiple_of p a + bits_of i) f)
  Breaks (string a) c env p s f = Begins c s f (BreaksString c (next_multiple_of p 8) f)
  Breaks (structure a ps) c env p s f =
      let b = next_multiple_of p a in
      Begins c s f (Opens c b f (BreaksMembers ps c env [] b (s + 1) f))
  Breaks (variant a tag choices ps) c env p s f =
      Begins c s f
      (IsOption (option_at tag choices c.earlier env) f (λ i.
      BreaksOption ps i c env p (s + 1) f))
  Breaks (array a many k) c env p s f =
      let b = next_multiple_of p (align_of k) in
      Begins c s f
      (Opens c b f
      (BreaksRow c (Stands k c env) (Breaks k c env) (length_of many c.earlier env) b
      (s + 1) f))
  Breaks (text a many) c env p s f =
      Begins c s f (BreaksLeaf c (next_multiple_of p 8 + 8 * length_of many c.earlier env) f)

  -- one of the members that are left breaks, and those before it are there
  pub BreaksMembers : Parts → Input → Env → List Val → ℕ → ℕ → Fault → Type 0
  BreaksMembers no_parts c env done p s f = ⊥
  BreaksMembers (part n k ps) c env done p s f =
      Breaks k c (done ∷ env) p s f
      ⊎ ((v : Val) × (m : ℕ) × Stands k c (done ∷ env) p v m × (s + count v ≤ c.limit)
      × BreaksMembers ps c env (done ++ v ∷ []) m (s + count v) f)

  -- option i breaks, or there is none
  pub BreaksOption : Parts → ℕ → Input → Env → ℕ → ℕ → Fault → Type 0
  BreaksOption no_parts i c env p s f = f ≡ no_option
  BreaksOption (part n k ps) zero c env p s f = Breaks k c env p s f
  BreaksOption (part n k ps) (suc i) c env p s f = BreaksOption ps i c env p s f
