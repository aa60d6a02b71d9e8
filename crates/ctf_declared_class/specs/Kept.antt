-- What is kept with a class (own).
use Rattle.std.specs.Prelude.{◌≡◌, ℕ, List}
use Rattle.ctf_meaning.specs.Shapes as plain
use Rattle.ctf_meaning.specs.Shapes.{align_of, depth_of, depth_of_members, nodes_of, nodes_of_members, largest, members_from}
use Rattle.ctf_declared_class.specs.declared.shape.Shape.{Shape}
use Rattle.ctf_declared_class.specs.declared.facts.Facts.{Facts}
use Rattle.ctf_declared_class.specs.Stopped.{stopped}
use Rattle.ctf_declared_class.specs.Views.{shape}

-- of a class: its alignment, its depth and its nodes, and whether a floating-point class is in it
pub record Keeps (s : plain.Shape) (facts : Facts) : Type 0 where
  pub aligned : facts.align ≡ align_of s
  pub deep : facts.depth ≡ stopped (depth_of s)
  pub many : facts.nodes ≡ stopped (nodes_of s)
  pub floats : facts.has_float ≡ plain.has_float s

abbrev pub KeepsOf : Shape → Facts → Type 0
KeepsOf s facts = Keeps (shape s) facts

-- of members: the largest of their alignments and of a number, how deep they are and how many classes they have
pub record KeepsAll (least : ℕ) (fields : List plain.Field) (facts : Facts) : Type 0 where
  pub aligned : facts.align ≡ largest least fields
  pub deep : facts.depth ≡ stopped (depth_of_members (members_from fields))
  pub many : facts.nodes ≡ stopped (nodes_of_members (members_from fields))
  pub floats : facts.has_float ≡ plain.has_float_member (members_from fields)
