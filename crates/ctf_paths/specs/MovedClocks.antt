-- Which clocks integers set, as far as it matters.
use Rattle.std.specs.Prelude.{◌≡◌, List, [], ◌∷◌, ◌++◌, option_copied}
use Rattle.ctf_class.specs.declared.trace.Clock.{Clock}
use Rattle.ctf_meaning.specs.There.{first}
use Rattle.ctf_meaning.specs.Shapes.{Field}
use Rattle.ctf_meaning.specs.Paths.{Spot, at_member}
use Rattle.ctf_meaning.specs.Links.{moved_clocks}
use Rattle.ctf_meaning.specs.Faults.{has_other}
use Rattle.ctf_paths.specs.declared.moved.Moved.{Moved}

-- what is kept of some clocks that are set: the first, and whether another has another name
pub record Tells (moved : Moved) (clocks : List Clock) : Type 0 where
  pub first : first clocks ≡ option_copied moved.first
  pub other : has_other clocks ≡ moved.has_other

-- those of members or options, each after the earlier ones
abbrev pub each_moved : (List Field → Field → List Clock) → List Field → List Field → List Clock
each_moved at earlier [] = []
each_moved at earlier (f ∷ fs) = at earlier f ++ each_moved at (earlier ++ f ∷ []) fs

-- The trace's clocks.
module _ (clocks : List Clock) where
  -- those of a member of a structure at a spot
  abbrev pub member_moved : Spot → List Field → Field → List Clock
  member_moved spot earlier f = moved_clocks clocks (at_member spot earlier f.name) f.shape

  -- those of an option of a variant
  abbrev pub option_moved : Spot → List Field → Field → List Clock
  option_moved spot earlier f = moved_clocks clocks spot f.shape
