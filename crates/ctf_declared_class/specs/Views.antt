-- What the code's classes by their declaration say.
use Rattle.std.specs.Prelude.{ℕ, List, [], ◌∷◌}
use Rattle.std.specs.Borrow.{Bor}
use Rattle.ctf_meaning.specs.Name.{Word}
use Rattle.ctf_meaning.specs.Shapes as plain
use Rattle.ctf_meaning.specs.Shapes.{no_member, member}
use Rattle.ctf_declared_class.specs.declared.shape.Shape.{Shape, fold-Shape}
use Rattle.ctf_declared_class.specs.declared.shape.Shape.TheOpen.{Shape-F, Members-F}
use Rattle.ctf_declared_class.specs.declared.shape.Members.{Members, fold-Members}

-- members of these names and classes, as many as have both
abbrev pub joined : List Word → List plain.Shape → plain.Members
joined [] shapes = no_member
joined (word ∷ words) [] = no_member
joined (word ∷ words) (shape ∷ shapes) = member word shape (joined words shapes)

abbrev pub shape_step : Shape-F plain.Shape plain.Members → plain.Shape
shape_step (Shape-F.Integer i) = plain.integer i
shape_step Shape-F.Float = plain.float
shape_step Shape-F.String = plain.string
shape_step (Shape-F.Enumeration container labels) = plain.enum container labels
shape_step (Shape-F.Structure align members) = plain.struct align members
shape_step (Shape-F.Variant tag options) = plain.variant tag options
shape_step (Shape-F.Array count element) = plain.array count element
shape_step (Shape-F.Sequence path element) = plain.sequence path element

abbrev pub members_step : Members-F plain.Shape plain.Members → plain.Members
members_step m = joined m.names m.shapes

-- a class
abbrev pub shape : Shape → plain.Shape
shape = fold-Shape plain.Shape plain.Members shape_step members_step

-- members or options
abbrev pub members : Members → plain.Members
members = fold-Members plain.Shape plain.Members shape_step members_step

-- a member that was found: its place and its class
abbrev pub place_and_shape : ℕ × Bor Shape → ℕ × plain.Shape
place_and_shape found = (found.0, shape found.1.now)

abbrev pub place_and_class : ℕ × plain.Field → ℕ × plain.Shape
place_and_class found = (found.0, found.1.shape)
