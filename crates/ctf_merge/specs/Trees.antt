-- Turns as the leaves of a tournament tree (own).
use Rattle.std.specs.Prelude.{◌≡◌, ◌≢◌, ℕ, suc, ◌+◌, ◌-◌, ◌/◌, ◌%◌, ◌^◌, ◌<◌, ◌≤◌, ◌⊎◌, min, false, cond, eqb, List, [], ◌∷◌, length, get_or, Option, Some, None, IfSome, slice_get}
use Rattle.std.specs.List.{AllByRecursion}
use Rattle.std.specs.Ordering.{is_lt}
use Rattle.ctf_merge.specs.Keys.{turn_of_key, IsKey}
use Rattle.ctf_merge.specs.Turns.{Turn, turn_cmp}

-- what is in the place of a turn where there is none
abbrev pub nothing : ℕ
nothing = 2 ^ 128 - 1

-- the turn that a node is
abbrev pub turn_in : ℕ → Option Turn
turn_in key = cond (eqb key nothing) None (Some (turn_of_key key))

-- the node at a place
abbrev pub node : ℕ → List ℕ → ℕ
node i nodes = get_or nodes i 0

-- a node is the lesser of the two below it
abbrev pub IsLesser : ℕ → List ℕ → Type 0
IsLesser i nodes = node i nodes ≡ min (node (i + i) nodes) (node (i + i + 1) nodes)

-- each node from the first on is the lesser of the two below it, but for the one at this place
pub record IsTreeBut (hole leaves : ℕ) (nodes : List ℕ) : Type 0 where
  pub sized : length nodes ≡ leaves + leaves
  pub lesser : (i : ℕ) → 1 ≤ i → i < leaves → i ≢ hole → IsLesser i nodes

-- each node is; at 0 there is none
abbrev pub IsTree : ℕ → List ℕ → Type 0
IsTree leaves nodes = IsTreeBut 0 leaves nodes

-- each node is but for the one above this place, and this key is at the place
pub record IsRisen (leaves place key : ℕ) (nodes : List ℕ) : Type 0 where
  pub tree : IsTreeBut (place / 2) leaves nodes
  pub at : node place nodes ≡ key
  pub within : place < leaves + leaves

-- no turn, or one of the stream of this number
abbrev pub IsNode : ℕ → ℕ → Type 0
IsNode number key = (key ≡ nothing) ⊎ (IsKey key × (key % 2 ^ 63 ≡ number))

-- the nodes of streams that are numbered from a number on
abbrev pub AreNodes : ℕ → List ℕ → Type 0
AreNodes from [] = Unit {0}
AreNodes from (k ∷ ks) = IsNode from k × AreNodes (suc from) ks

-- no turn is less than this one
abbrev pub IsLow : Turn → List (Option Turn) → Type 0
IsLow t turns = AllByRecursion (λ u. IfSome u (λ v. is_lt (turn_cmp v t) ≡ false)) turns

-- this stream has the least turn
pub record IsFirst (turns : List (Option Turn)) (number : ℕ) : Type 0 where
  pub turn : Turn
  pub at : slice_get turns number ≡ Some (Some turn)
  pub low : IsLow turn turns
