-- Classes of members and options, one after another, and what is kept of them.
use Rattle.std.specs.Prelude.{ℕ, ◌+◌, max, List, [], ◌∷◌, ◌++◌, Ok}
use Rattle.ctf_bits.specs.declared.number.Order.{Order}
use Rattle.ctf_class.specs.declared.class.Class.{Class, roll-Class}
use Rattle.ctf_class.specs.declared.class.Kind.{Kind}
use Rattle.ctf_class.specs.declared.class.Member.{Member}
use Rattle.ctf_class.specs.declared.trace.Clock.{Clock}
use Rattle.ctf_meaning.specs.Shapes.{Field}
use Rattle.ctf_meaning.specs.Paths.{Spot, at_member}
use Rattle.ctf_meaning.specs.Links.{named_by}
use Rattle.ctf_meaning_steps.specs.Told.{Told, ◌>>=◌}
use Rattle.ctf_meaning_steps.specs.Linking.{class_told}

-- each after the earlier ones
abbrev pub each_told : (List Field → Field → Told Member) → List Field → List Field
    → Told (List Member)
each_told at earlier [] = Ok []
each_told at earlier (f ∷ fs) =
    at earlier f >>= λ m. each_told at (earlier ++ f ∷ []) fs >>= λ ms. Ok (m ∷ ms)

-- The trace's order and clocks.
module _ (order : Order) (clocks : List Clock) where
  -- a member of a structure at a spot
  abbrev pub member_told : Spot → List Field → Field → Told Member
  member_told spot earlier f =
      class_told order clocks (at_member spot earlier f.name) f.shape
      >>= λ c. Ok (named_by f.name c)

  -- an option of a variant
  abbrev pub option_told : Spot → List Field → Field → Told Member
  option_told spot earlier f = class_told order clocks spot f.shape >>= λ c. Ok (named_by f.name c)

-- how deep classes beside one another are
abbrev pub depth_in : List Member → ℕ
depth_in [] = 0
depth_in (m ∷ ms) = max m.class.depth (depth_in ms)

-- how many they are, with those in them
abbrev pub nodes_in : List Member → ℕ
nodes_in [] = 0
nodes_in (m ∷ ms) = m.class.nodes + nodes_in ms

-- a class around parts of this depth and so many classes
abbrev pub class_around : ℕ → ℕ → ℕ → Kind → Class
class_around align depth nodes what =
    roll-Class (record { align = align; depth = 1 + depth; nodes = 1 + nodes; kind = what })
