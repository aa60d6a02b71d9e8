-- What a value says, as a tree that holds no memory.
use Rattle.std.specs.Prelude.{ℕ, zero, suc, ℤ, ◌+◌, List, [], ◌∷◌, Option, Some, None, option_and_then}

mutual
  pub data Val : Type 0 where
    unsigned : ℕ → Val
    signed : ℤ → Val
    label : ℤ → Val
    text : List ℕ → Val
    group : Vals → Val
    list : Vals → Val
    choice : ℕ → Val → Val

  -- values, one after the other
  pub data Vals : Type 0 where
    no_vals : Vals
    more_vals : Val → Vals → Vals

abbrev pub vals_of : List Val → Vals
vals_of [] = no_vals
vals_of (v ∷ vs) = more_vals v (vals_of vs)

-- how many values are in a value: itself, and those in its parts; a text counts one (own)
abbrev mutual
  pub count : Val → ℕ
  count (unsigned n) = 1
  count (signed z) = 1
  count (label z) = 1
  count (text bytes) = 1
  count (group vs) = 1 + counts vs
  count (list vs) = 1 + counts vs
  count (choice i v) = 1 + count v

  pub counts : Vals → ℕ
  counts no_vals = 0
  counts (more_vals v vs) = count v + counts vs

-- the value at an index
abbrev pub nth : Vals → ℕ → Option Val
nth no_vals i = None
nth (more_vals v vs) zero = Some v
nth (more_vals v vs) (suc i) = nth vs i

-- the member that some steps lead to, through structures alone (CTF 1.8.3, section 7.3.2)
abbrev pub down : List ℕ → Val → Option Val
down [] v = Some v
down (i ∷ is) (group vs) = option_and_then (down is) (nth vs i)
down (i ∷ is) _ = None
